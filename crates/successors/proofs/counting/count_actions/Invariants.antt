use Rattle.std.proofs.Common.{◌≡◌, ◌+◌, ◌≤◌, ◌^◌, min, length, drop}
use Rattle.std.specs.Prelude.{flat_map}
use Rattle.successors.specs.Enabled.{is_enabled}
use Rattle.successors.specs.Partition.{joint_lists}
use Rattle.successors.proofs.counting.count_actions.Given as goal

-- the choices so far, and those of the other actions
abbrev pub invariant-loop-lists : goal.invariant-loop-lists
invariant-loop-lists l = record {
  same : min (l.total + length (flat_map (joint_lists (is_enabled l.fn.lane l.enabled)) (drop l.lists-index l.actions))) (2 ^ 48 + 1)
      ≡ min (length (flat_map (joint_lists (is_enabled l.fn.lane l.enabled)) l.actions)) (2 ^ 48 + 1);
  small : l.total ≤ 2 ^ 48 + 1;
}
