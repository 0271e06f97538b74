use Rattle.std.proofs.Common.{◌≡◌, take, pos}
use Rattle.std.specs.List.{count_by}
use Rattle.guard_code.specs.Tests.{test_holds}
use Rattle.guard_code.proofs.plain_tests.count_holding.Given as goal

-- how many of the tests so far hold
abbrev pub invariant-loop-test : goal.invariant-loop-test
invariant-loop-test l = l.count ≡ pos (count_by (test_holds l.state) (take l.test-index l.tests))
