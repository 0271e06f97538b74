-- One weight further.
use Rattle.std.proofs.Common.{sym, arith}
use Rattle.successors.specs.Weighing.{node_weight, node_weights}
use Rattle.successors.proofs.WeightLemmas.{written_next, weights_next}
use Rattle.successors.proofs.weighing.write_weights.Goals as goal

pub loop-index-preserved : goal.loop-index-preserved
loop-index-preserved c = record {
  same = written_next (node_weight c.args.state.now c.args.command) c.args.nodes.now c.loop-index.weights c.loop-index.index c.index-nodes-index.result c.in-Ok.weight
      (node_weights c.args.state.now c.args.command c.args.nodes.now) c.loop-index-test.true (omega (arith, c.loop-index-test.true, c.requires, c.loop-index.auto.weights))
      c.index-nodes-index.is (sym c.in-Ok.ensures.value) c.loop-index.invariant.same;
  all = weights_next c.loop-index.weights c.loop-index.index c.in-Ok.weight (omega (arith, c.loop-index-test.true, c.requires, c.loop-index.auto.weights)) c.loop-index.invariant.all c.in-Ok.ensures.weight;
}
