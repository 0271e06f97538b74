use Rattle.std.specs.Prelude.{flat_map, slice_get}
use Rattle.successors.specs.Enabled.{is_enabled}
use Rattle.successors.specs.Partition.{joint_lists}
use Rattle.successors.proofs.PlaceLemmas.{Placed}
use Rattle.successors.proofs.decoding.write_action.Given as goal

-- the choice is one of the actions that are left
abbrev pub invariant-loop-lists : goal.invariant-loop-lists
invariant-loop-lists l =
    Placed (joint_lists (is_enabled l.lane l.enabled)) l.actions l.lists-index l.left (slice_get (flat_map (joint_lists (is_enabled l.lane l.enabled)) l.actions) l.fn.number)
