-- The slot is one of them.
use Rattle.std.proofs.Common.{◌<◌, length}
use Rattle.state_table.proofs.slots.find.Given as goal

abbrev pub invariant-loop-probe : goal.invariant-loop-probe
invariant-loop-probe l = l.at < length l.slots
