-- The command is one of the chain's, or has no branches.
use Rattle.trace_streams.specs.Draws.{draw_at}
use Rattle.successors.proofs.TakingLemmas.{weighing_at, branch_past}
use Rattle.successors.proofs.taking.branch_taken.Goals as goal

pub branch-chain-requires-clause-weighing : goal.branch-chain-requires-clause-weighing
branch-chain-requires-clause-weighing c = weighing_at c.args.chain.now c.args.commands.now c.args.command c.in-Some.code.now c.requires.commands c.in-Some.ensures

pub returns-in-None-clause-value : goal.returns-in-None-clause-value
returns-in-None-clause-value c =
    branch_past c.args.chain.now (draw_at c.args.draws.now.seed c.args.draws.now.trace) c.args.state.now c.args.draws.now.place c.args.commands.now c.args.command
    c.requires.commands c.in-None.ensures
