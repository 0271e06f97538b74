use Rattle.std.proofs.Common.{length}
use Rattle.prism_model.proofs.RewardsLemmas.{Passed}
use Rattle.prism_model.proofs.rewards.after_rewards.Given as goal

abbrev pub invariant-loop-rest : goal.invariant-loop-rest
invariant-loop-rest l = Passed l.fn.tokens l.rest

abbrev pub decreases-loop-rest : goal.decreases-loop-rest
decreases-loop-rest l = length l.rest
