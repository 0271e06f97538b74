-- One part further.
use Rattle.guard_code.proofs.CountLemmas.{counted_more, counted_all}
use Rattle.guard_code.proofs.counts.counted_tests.Goals as goal

pub loop-part-preserved : goal.loop-part-preserved
loop-part-preserved c =
    counted_more c.loop-part.tests c.args.parts.now c.loop-part.part-index c.part-item.result c.in-Some.test _ c.loop-part-test.true c.part-item.is c.in-Some.ensures c.in_ok-push-in-Some.ensures.ok c.loop-part.invariant

pub returns : goal.returns
returns c = counted_all c.loop-part.tests c.args.parts.now c.loop-part.part-index c.loop-part-test.false c.loop-part.invariant
