use Rattle.successors.proofs.FixedLemmas.{Marked}
use Rattle.successors.proofs.fixed.thresholds.Given as goal

-- the thresholds so far, and those of the other weights
abbrev pub invariant-loop-weight : goal.invariant-loop-weight
invariant-loop-weight l = Marked l.weights l.den l.thresholds l.through l.weight-index
