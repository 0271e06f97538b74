use Rattle.std.proofs.Common.{◌≡◌, ◌+◌, ◌*◌, ◌≤◌, ◌^◌, min, length, drop}
use Rattle.successors.specs.Enabled.{is_enabled}
use Rattle.successors.specs.Partition.{joint_lists}
use Rattle.successors.proofs.counting.count_joint.Given as goal

-- the product so far, and what the other lists make of it
abbrev pub invariant-loop-list : goal.invariant-loop-list
invariant-loop-list l = record {
  same : min (l.product * length (joint_lists (is_enabled l.fn.lane l.enabled) (drop l.list-index l.lists))) (2 ^ 48 + 1)
      ≡ min (length (joint_lists (is_enabled l.fn.lane l.enabled) l.lists)) (2 ^ 48 + 1);
  small : l.product ≤ 2 ^ 48 + 1;
}
