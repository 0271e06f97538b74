use Rattle.std.proofs.Common.{◌≡◌, ◌++◌, map, take}
use Rattle.prism_names.specs.Names.{names_of, concatenated}
use Rattle.prism_names.proofs.expressions.+names.Given as goal

-- the names of the expressions so far are appended
abbrev pub invariant-note_all-loop-expr : goal.invariant-note_all-loop-expr
invariant-note_all-loop-expr l =
    map (λ name. name.now) l.names.items
    ≡ map (λ name. name.now) l.initial.names.items ++ concatenated (map names_of (take l.expr-index l.exprs))
