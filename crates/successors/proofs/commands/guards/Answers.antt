-- One guard more.
use Rattle.successors.proofs.CommandLemmas.{guard_more}
use Rattle.successors.proofs.commands.guards.Goals as goal

pub loop-act-preserved : goal.loop-act-preserved
loop-act-preserved c =
    guard_more c.args.acts.now c.loop-act.act-index c.act-item.result c.loop-act.nodes c.push.new.self c.in_ok-node_of.field-0
    c.loop-act-test.true c.act-item.is c.loop-act.invariant c.in_ok-node_of.ensures c.in_ok-push.ensures.ok
