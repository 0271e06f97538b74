-- One weight more.
use Rattle.std.proofs.Common.{◌∷◌, [], length, ap, arith, length-append}
use Rattle.successors.proofs.CommandLemmas.{weight_more}
use Rattle.successors.proofs.commands.weight_nodes.Goals as goal

pub loop-arm-preserved : goal.loop-arm-preserved
loop-arm-preserved c = record {
  means = weight_more c.args.arms.now c.loop-arm.arm-index c.arm-item.result c.loop-arm.nodes c.push.new.self c.in_ok-node_of.field-0
      c.loop-arm-test.true c.arm-item.is c.loop-arm.invariant.means c.in_ok-node_of.ensures c.in_ok-push.ensures.ok;
  long = omega (arith, ap length c.in_ok-push.ensures.ok, length-append c.loop-arm.nodes (c.in_ok-node_of.field-0 ∷ []), c.loop-arm.invariant.long);
}
