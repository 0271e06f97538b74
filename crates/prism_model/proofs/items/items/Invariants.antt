use Rattle.std.proofs.Common.{length}
use Rattle.prism_model.proofs.ModelLemmas.{Collected}
use Rattle.prism_model.proofs.items.items.Given as goal

abbrev pub invariant-loop-rest : goal.invariant-loop-rest
invariant-loop-rest l = Collected l.fn.tokens l.model l.rest

abbrev pub decreases-loop-rest : goal.decreases-loop-rest
decreases-loop-rest l = length l.rest
