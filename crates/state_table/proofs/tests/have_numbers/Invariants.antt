-- A state has two values.
use Rattle.std.proofs.Common.{◌≡◌}
use Rattle.state_table.proofs.tests.have_numbers.Given as goal

abbrev pub invariant-loop-state : goal.invariant-loop-state
invariant-loop-state l = l.table.width ≡ 2
