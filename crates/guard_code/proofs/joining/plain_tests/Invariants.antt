use Rattle.std.proofs.Common.{take}
use Rattle.guard_code.specs.Joins.{AreTests}
use Rattle.guard_code.proofs.joining.plain_tests.Given as goal

-- the tests that the parts so far are
abbrev pub invariant-loop-part : goal.invariant-loop-part
invariant-loop-part l = AreTests l.tests (take l.part-index l.parts)
