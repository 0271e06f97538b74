use Rattle.std.proofs.Common.{◌≡◌, drop}
use Rattle.std.specs.List.{list_all}
use Rattle.guard_code.specs.Tests.{test_holds}
use Rattle.guard_code.proofs.plain_tests.all_hold.Given as goal

-- each test so far holds
abbrev pub invariant-loop-test : goal.invariant-loop-test
invariant-loop-test l = list_all (test_holds l.state) (drop l.test-index l.tests) ≡ list_all (test_holds l.state) l.tests
