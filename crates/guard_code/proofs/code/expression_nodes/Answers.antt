-- The expressions of the commands stand after none.
use Rattle.std.proofs.Common.{List, subst}
use Rattle.std.specs.Prelude.{flat_map, []}
use Rattle.chain_model.specs.declared.chain.Act.{Act}
use Rattle.guard_code.specs.declared.nodes.Node.{Node}
use Rattle.guard_code.specs.Codes.{command_expressions, model_expressions}
use Rattle.guard_code.specs.Means.{Adds}
use Rattle.guard_code.proofs.CodeLemmas.{all_added}
use Rattle.guard_code.proofs.code.expression_nodes.Goals as goal

pub returns : goal.returns
returns c =
    all_added c.add_commands.new.nodes (model_expressions c.args.job.now)
    (subst (λ (acts : List Act). Adds [] c.add_commands.new.nodes (flat_map command_expressions acts)) c.as_slice.ensures
    (subst (λ (none : List Node). Adds none c.add_commands.new.nodes (flat_map command_expressions c.as_slice.result.now)) c.new-nodes.ensures c.in_ok-add_commands.ensures))
