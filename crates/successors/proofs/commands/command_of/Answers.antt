-- The command has the weights and the right sides of its branches.
use Rattle.std.proofs.Common.{List, sym, subst, ◌∙◌}
use Rattle.chain_model.specs.declared.chain.Arm.{Arm}
use Rattle.successors.specs.Commands.{AreArms}
use Rattle.successors.proofs.CommandLemmas.{has_weights}
use Rattle.successors.proofs.commands.command_of.Goals as goal

pub returns : goal.returns
returns c = record {
  weighing = c.in_ok-weights_of.ensures;
  arms = subst (λ (arms : List Arm). AreArms c.args.chain.now arms c.in_ok-arms_of.field-0) (c.as_slice-arms.ensures ∙ sym c.requires) c.in_ok-arms_of.ensures;
}

pub weights_of-requires : goal.weights_of-requires
weights_of-requires c =
    has_weights c.args.chain.now c.args.number c.as_slice-arms.result.now c.in_ok-weight_nodes.field-0 (c.requires ∙ sym c.as_slice-arms.ensures)
    c.in_ok-weight_nodes.ensures.means c.in_ok-weight_nodes.ensures.long
