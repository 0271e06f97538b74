use Rattle.std.proofs.Common.{◌≡◌, ◌≤◌, length, take}
use Rattle.std.specs.Prelude.{filter}
use Rattle.successors.specs.Enabled.{is_enabled}
use Rattle.successors.proofs.lanes.count_enabled.Given as goal

-- the enabled ones so far
abbrev pub invariant-loop-number : goal.invariant-loop-number
invariant-loop-number l = record {
  value : l.count ≡ length (filter (is_enabled l.fn.lane l.enabled) (take l.number-index l.numbers));
  within : l.count ≤ l.number-index;
}
