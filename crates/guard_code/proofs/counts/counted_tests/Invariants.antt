use Rattle.std.proofs.Common.{take}
use Rattle.guard_code.specs.Joins.{AreCounted}
use Rattle.guard_code.proofs.counts.counted_tests.Given as goal

-- the tests that the parts so far count
abbrev pub invariant-loop-part : goal.invariant-loop-part
invariant-loop-part l = AreCounted l.tests (take l.part-index l.parts)
