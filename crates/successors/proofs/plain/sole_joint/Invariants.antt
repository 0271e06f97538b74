use Rattle.successors.specs.Plain.{holds_at}
use Rattle.successors.proofs.PlainLemmas.{Sole}
use Rattle.successors.proofs.plain.sole_joint.Given as goal

-- each list from the place on has one enabled command alone, which is written
abbrev pub invariant-loop-place : goal.invariant-loop-place
invariant-loop-place l = Sole (holds_at l.guards l.state) l.lists l.place l.chosen

abbrev pub decreases-loop-place : goal.decreases-loop-place
decreases-loop-place l = l.place
