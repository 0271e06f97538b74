use Rattle.std.proofs.Common.{◌≡◌, take}
use Rattle.std.specs.Prelude.{None}
use Rattle.prism_names.specs.First.{first_some}
use Rattle.typed_trees.specs.Scopes.{name_in}
use Rattle.typecheck.specs.Uses.{unknown_in_variable}
use Rattle.typecheck.proofs.uses.unknown_in_variables.Given as goal

-- none so far has an unknown name
abbrev pub invariant-loop-variable : goal.invariant-loop-variable
invariant-loop-variable l = first_some (unknown_in_variable (name_in l.constants)) (take l.variable-index l.variables) ≡ None
