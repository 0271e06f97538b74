use Rattle.std.proofs.Common.{◌≡◌, take}
use Rattle.std.specs.Prelude.{None}
use Rattle.prism_names.specs.First.{first_some}
use Rattle.typed_trees.specs.Scopes.{name_in}
use Rattle.typecheck.specs.Names.{unknown_in}
use Rattle.typecheck.proofs.uses.unknown_in_labels.Given as goal

-- none so far has an unknown name
abbrev pub invariant-loop-label : goal.invariant-loop-label
invariant-loop-label l = first_some (λ x. unknown_in (name_in l.scope) x.body) (take l.label-index l.labels) ≡ None
