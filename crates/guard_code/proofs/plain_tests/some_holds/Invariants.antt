use Rattle.std.proofs.Common.{◌≡◌, drop}
use Rattle.std.specs.List.{list_any}
use Rattle.guard_code.specs.Tests.{test_holds}
use Rattle.guard_code.proofs.plain_tests.some_holds.Given as goal

-- no test so far holds
abbrev pub invariant-loop-test : goal.invariant-loop-test
invariant-loop-test l = list_any (test_holds l.state) (drop l.test-index l.tests) ≡ list_any (test_holds l.state) l.tests
