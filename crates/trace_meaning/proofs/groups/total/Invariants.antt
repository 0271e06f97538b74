use Rattle.std.proofs.Common.{◌≡◌, ◌+◌, ◌≤◌, ◌^◌, drop, length, min}
use Rattle.std.specs.Prelude.{flat_map}
use Rattle.trace_meaning.specs.Groups.{group_choices}
use Rattle.trace_meaning.proofs.groups.total.Given as goal

-- the choices so far, and those of the other groups
abbrev pub invariant-loop-group : goal.invariant-loop-group
invariant-loop-group l = record {
  same : min (l.total + length (flat_map group_choices (drop l.group-index l.groups))) (2 ^ 48 + 1) ≡ min (length (flat_map group_choices l.groups)) (2 ^ 48 + 1);
  small : l.total ≤ 2 ^ 48 + 1;
}
