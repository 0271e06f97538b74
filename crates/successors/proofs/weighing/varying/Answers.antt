-- The branch is what the weights say, or their fault is its fault.
use Rattle.std.proofs.Common.{length, take, Ok, Err, sym, ◌∙◌}
use Rattle.trace_streams.specs.Draws.{draw_at}
use Rattle.successors.proofs.WeightLemmas.{branch_by_nodes}
use Rattle.successors.proofs.weighing.varying.Goals as goal

pub returns-in-Ok-clause-value : goal.returns-in-Ok-clause-value
returns-in-Ok-clause-value c =
    let draw = draw_at c.args.draws.now.seed c.args.draws.now.trace in
    c.picked.ensures.value
    ∙ sym (branch_by_nodes c.args.chain.now draw c.args.state.now c.args.draws.now.place c.args.command c.args.nodes.now (Ok (take (length c.args.nodes.now) c.write_weights.new.weights))
    c.requires.weighing c.requires.small c.in-Ok.ensures.value)

pub returns-in-Err-clause-value : goal.returns-in-Err-clause-value
returns-in-Err-clause-value c =
    let draw = draw_at c.args.draws.now.seed c.args.draws.now.trace in
    sym (branch_by_nodes c.args.chain.now draw c.args.state.now c.args.draws.now.place c.args.command c.args.nodes.now (Err c.in-Err.fault) c.requires.weighing c.requires.small c.in-Err.ensures.value)
