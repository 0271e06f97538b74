-- The command is one of the chain's.
use Rattle.successors.proofs.TakingLemmas.{weighing_at}
use Rattle.successors.proofs.branching.branching_of.Goals as goal

pub by_weighing-requires-clause-weighing : goal.by_weighing-requires-clause-weighing
by_weighing-requires-clause-weighing c = weighing_at c.args.chain.now c.args.commands.now c.args.command c.in-Some.code.now c.requires.commands c.in-Some.ensures
