use Rattle.std.proofs.Common.{◌≡◌, drop, map, ◌++◌}
use Rattle.std.specs.List.{enumerate_from}
use Rattle.trace_meaning.specs.Groups.{groups_of, action_group}
use Rattle.trace_meaning.proofs.groups.groups.Given as goal

-- the groups so far, and those of the other actions
abbrev pub invariant-loop-number : goal.invariant-loop-number
invariant-loop-number l =
    l.groups ++ map (action_group l.chain.commands l.enabled) (enumerate_from l.number (drop l.number l.chain.actions)) ≡ groups_of l.chain l.enabled
