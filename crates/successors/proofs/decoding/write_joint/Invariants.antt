use Rattle.successors.specs.Enabled.{is_enabled}
use Rattle.successors.proofs.DecodeLemmas.{Decoded}
use Rattle.successors.proofs.decoding.write_joint.Given as goal

-- the digits from the place on are read
abbrev pub invariant-loop-place : goal.invariant-loop-place
invariant-loop-place l = Decoded (is_enabled l.lane l.enabled) l.lists l.number l.place l.left l.chosen

abbrev pub decreases-loop-place : goal.decreases-loop-place
decreases-loop-place l = l.place
