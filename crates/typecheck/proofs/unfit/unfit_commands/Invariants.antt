use Rattle.std.proofs.Common.{◌≡◌, ◌+◌, ℕ, take}
use Rattle.std.specs.Prelude.{None, Some, if◌then◌else◌}
use Rattle.std.specs.List.{enumerate_from}
use Rattle.prism_names.specs.First.{first_some}
use Rattle.typed_trees.specs.Leaves.{shown}
use Rattle.typed_trees.specs.Scopes.{tree_in}
use Rattle.typecheck.specs.declared.fault.Item.TheVariants as item
use Rattle.typecheck.specs.Items.{command_fits}
use Rattle.typecheck.specs.Sorts.{sort_in}
use Rattle.typecheck.proofs.unfit.unfit_commands.Given as goal

-- those so far fit, and the next is numbered on
abbrev pub invariant-loop-command : goal.invariant-loop-command
invariant-loop-command l = (n : ℕ) → l.from ≡ shown n → (l.number ≡ shown (n + l.command-index))
    × (first_some (λ z. if command_fits (tree_in l.scope) (sort_in l.scope) z.1 then None else Some (item.Command (shown z.0))) (enumerate_from n (take l.command-index l.commands)) ≡ None)
