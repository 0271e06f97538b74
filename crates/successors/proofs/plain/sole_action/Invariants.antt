use Rattle.std.proofs.Common.{◌≡◌, drop}
use Rattle.std.specs.Prelude.{flat_map}
use Rattle.successors.specs.Partition.{joint_lists}
use Rattle.successors.specs.Plain.{holds_at}
use Rattle.successors.proofs.plain.sole_action.Given as goal

-- no action so far has a choice
abbrev pub invariant-loop-index : goal.invariant-loop-index
invariant-loop-index l = flat_map (joint_lists (holds_at l.guards l.state)) (drop l.index l.actions) ≡ flat_map (joint_lists (holds_at l.guards l.state)) l.actions
