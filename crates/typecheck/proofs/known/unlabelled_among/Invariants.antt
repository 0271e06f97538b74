use Rattle.std.proofs.Common.{◌≡◌, map, take}
use Rattle.std.specs.Prelude.{None}
use Rattle.typed_trees.specs.Scopes.{label_in}
use Rattle.typecheck.specs.Names.{first_without}
use Rattle.typecheck.proofs.known.unlabelled_among.Given as goal

-- the names so far stand for something
abbrev pub invariant-loop-name : goal.invariant-loop-name
invariant-loop-name l = first_without (label_in l.scope) (map (λ name. name.now) (take l.name-index l.names)) ≡ None
