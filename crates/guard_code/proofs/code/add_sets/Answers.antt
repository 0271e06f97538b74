-- One right side further.
use Rattle.guard_code.proofs.CodeLemmas.{sets_more}
use Rattle.guard_code.proofs.code.add_sets.Goals as goal

pub loop-set-preserved : goal.loop-set-preserved
loop-set-preserved c =
    sets_more c.args.nodes.now c.loop-set.nodes c.add.new.nodes c.args.sets.now c.loop-set.set-index c.set-item.result c.loop-set-test.true c.set-item.is c.loop-set.invariant c.in_ok-add.ensures
