-- One command further.
use Rattle.std.proofs.Common.{List, subst}
use Rattle.std.specs.Prelude.{flat_map}
use Rattle.chain_model.specs.declared.chain.Arm.{Arm}
use Rattle.guard_code.specs.Codes.{branch_expressions}
use Rattle.guard_code.specs.Means.{Adds}
use Rattle.guard_code.proofs.CodeLemmas.{commands_more}
use Rattle.guard_code.proofs.code.add_commands.Goals as goal

pub loop-act-preserved : goal.loop-act-preserved
loop-act-preserved c =
    commands_more c.args.nodes.now c.loop-act.nodes c.add.new.nodes c.add_branches.new.nodes c.args.acts.now c.loop-act.act-index c.act-item.result c.loop-act-test.true c.act-item.is
    c.loop-act.invariant c.in_ok-add.ensures
    (subst (λ (arms : List Arm). Adds c.add.new.nodes c.add_branches.new.nodes (flat_map branch_expressions arms)) c.as_slice.ensures c.in_ok-add_branches.ensures)
