use Rattle.successors.specs.Enabled.{is_enabled}
use Rattle.successors.proofs.FirstLemmas.{Found}
use Rattle.successors.proofs.first.first_joint.Given as goal

-- each list from the place on has an enabled command, and the first of each is written
abbrev pub invariant-loop-place : goal.invariant-loop-place
invariant-loop-place l = Found (is_enabled l.lane l.enabled) l.lists l.place l.product l.chosen

abbrev pub decreases-loop-place : goal.decreases-loop-place
decreases-loop-place l = l.place
