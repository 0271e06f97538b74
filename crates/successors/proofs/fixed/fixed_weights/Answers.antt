-- One weight more.
use Rattle.std.proofs.Common.{subst, sym}
use Rattle.std.specs.Prelude.{All}
use Rattle.std.proofs.lemmas.List.Elements.{All-push}
use Rattle.trace_meaning.specs.Weights.{IsWeight}
use Rattle.successors.proofs.FixedLemmas.{fixed_more}
use Rattle.successors.proofs.fixed.fixed_weights.Goals as goal

pub loop-node-preserved : goal.loop-node-preserved
loop-node-preserved c = record {
  value = fixed_more c.args.nodes.now c.loop-node.node-index c.node-item.result c.loop-node.weights c.push.new.self c.in-Some.weight
      c.loop-node-test.true c.node-item.is c.loop-node.invariant.value c.in-Some.ensures.value c.in_ok-push-in-Some.ensures.ok;
  weights = subst (All IsWeight) (sym c.in_ok-push-in-Some.ensures.ok) (All-push IsWeight c.loop-node.weights c.in-Some.weight c.loop-node.invariant.weights c.in-Some.ensures.weight);
}
