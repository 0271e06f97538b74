use Rattle.std.proofs.Common.{◌≡◌, ◌++◌, map, take}
use Rattle.prism_names.specs.Names.{concatenated}
use Rattle.typecheck.specs.Names.{quoted_of}
use Rattle.typecheck.proofs.quoted.+quoted.Given as goal

-- the labels of the expressions so far are appended
abbrev pub invariant-note_all-loop-expr : goal.invariant-note_all-loop-expr
invariant-note_all-loop-expr l =
    map (λ name. name.now) l.names.items
    ≡ map (λ name. name.now) l.initial.names.items ++ concatenated (map quoted_of (take l.expr-index l.exprs))
