-- One node more.
use Rattle.std.proofs.Common.{subst}
use Rattle.std.specs.Prelude.{IsOk}
use Rattle.std.proofs.lemmas.List.Elements.{All-more}
use Rattle.guard_code.specs.declared.nodes.Node.{Node}
use Rattle.successors.specs.Plain.{told_by}
use Rattle.successors.proofs.plain.have_truth.Goals as goal

pub loop-node-preserved : goal.loop-node-preserved
loop-node-preserved c = record {
  told = λ state.
      All-more (λ (node : Node). IsOk (told_by state node)) c.args.nodes.now c.loop-node.node-index c.node-item.result c.loop-node-test.true (c.loop-node.invariant.told state)
      (subst (λ (node : Node). IsOk (told_by state node)) c.node-item.is (c.has_truth.ensures c.if-not-has_truth.false state));
}
