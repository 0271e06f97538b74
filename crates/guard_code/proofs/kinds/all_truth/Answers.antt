-- One node further.
use Rattle.std.proofs.Common.{refl}
use Rattle.guard_code.specs.Means.{IsTruth}
use Rattle.guard_code.proofs.JoinLemmas.{next_too}
use Rattle.guard_code.proofs.kinds.all_truth.Goals as goal

pub loop-node-preserved : goal.loop-node-preserved
loop-node-preserved c =
    next_too IsTruth c.args.nodes.now c.loop-node.node-index c.node-item.result c.loop-node-test.true c.node-item.is (c.if-not-is_truth.ensures refl) c.loop-node.invariant
