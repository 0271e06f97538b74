use Rattle.std.proofs.Common.{◌≡◌, drop}
use Rattle.std.specs.Prelude.{flat_map}
use Rattle.successors.specs.Enabled.{is_enabled}
use Rattle.successors.specs.Partition.{joint_lists}
use Rattle.successors.proofs.first.first_action.Given as goal

-- no action so far has a choice
abbrev pub invariant-loop-index : goal.invariant-loop-index
invariant-loop-index l = flat_map (joint_lists (is_enabled l.lane l.enabled)) (drop l.index l.actions) ≡ flat_map (joint_lists (is_enabled l.lane l.enabled)) l.actions
