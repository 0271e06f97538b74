use Rattle.std.proofs.Common.{◌≡◌, false, take, length}
use Rattle.std.specs.Prelude.{nat_lt}
use Rattle.std.specs.List.{list_any}
use Rattle.chain_model.specs.Limits.{most_branches}
use Rattle.typecheck.proofs.sizes.has_wide_command.Given as goal

-- none of the commands so far is too wide
abbrev pub invariant-loop-command : goal.invariant-loop-command
invariant-loop-command l = list_any (λ c. nat_lt most_branches (length c.1.now.branches)) (take l.command-index l.commands) ≡ false
