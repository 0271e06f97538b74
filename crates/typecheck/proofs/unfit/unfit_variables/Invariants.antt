use Rattle.std.proofs.Common.{◌≡◌, ◌+◌, ℕ, take}
use Rattle.std.specs.Prelude.{None, Some, if◌then◌else◌}
use Rattle.std.specs.List.{enumerate_from}
use Rattle.prism_names.specs.First.{first_some}
use Rattle.typed_trees.specs.Leaves.{shown}
use Rattle.typed_trees.specs.Scopes.{tree_in}
use Rattle.typecheck.specs.declared.fault.Item.TheVariants as item
use Rattle.typecheck.specs.Items.{variable_fits}
use Rattle.typecheck.proofs.unfit.unfit_variables.Given as goal

-- those so far fit, and the next is numbered on
abbrev pub invariant-loop-variable : goal.invariant-loop-variable
invariant-loop-variable l = (n : ℕ) → l.from ≡ shown n → (l.number ≡ shown (n + l.variable-index))
    × (first_some (λ z. if variable_fits (tree_in l.constants) z.1 then None else Some (item.Variable (shown z.0))) (enumerate_from n (take l.variable-index l.variables)) ≡ None)
