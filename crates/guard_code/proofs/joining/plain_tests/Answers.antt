-- One plain test further.
use Rattle.guard_code.proofs.JoinLemmas.{tests_more, tests_all}
use Rattle.guard_code.proofs.joining.plain_tests.Goals as goal

pub loop-part-preserved : goal.loop-part-preserved
loop-part-preserved c =
    tests_more c.loop-part.tests c.args.parts.now c.loop-part.part-index c.part-item.result c.in-Plain.test _ c.loop-part-test.true c.part-item.is c.in-Plain.is c.in_ok-push-in-Plain.ensures.ok c.loop-part.invariant

pub returns : goal.returns
returns c = tests_all c.loop-part.tests c.args.parts.now c.loop-part.part-index c.loop-part-test.false c.loop-part.invariant
