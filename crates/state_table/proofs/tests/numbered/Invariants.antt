-- A state has so many values.
use Rattle.std.proofs.Common.{◌≡◌}
use Rattle.state_table.proofs.tests.numbered.Given as goal

abbrev pub invariant-loop-value : goal.invariant-loop-value
invariant-loop-value l = l.table.width ≡ l.width
