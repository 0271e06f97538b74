-- One side more.
use Rattle.successors.proofs.SideLemmas.{sides_more}
use Rattle.successors.proofs.sides.sides.Goals as goal

pub loop-set-preserved : goal.loop-set-preserved
loop-set-preserved c =
    sides_more c.args.chain.now c.args.sets.now c.loop-set.set-index c.set-item.result c.loop-set.sides c.push.new.self c.in_ok-side_of.field-0
    c.loop-set-test.true c.set-item.is c.loop-set.invariant c.in_ok-side_of.ensures c.in_ok-push.ensures.ok
