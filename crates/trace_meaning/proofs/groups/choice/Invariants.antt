use Rattle.std.specs.Prelude.{flat_map, slice_get}
use Rattle.trace_meaning.specs.Groups.{group_choices}
use Rattle.trace_meaning.proofs.GroupLemmas.{Found}
use Rattle.trace_meaning.proofs.groups.choice.Given as goal

-- the choice stands among the groups that are left
abbrev pub invariant-loop-group : goal.invariant-loop-group
invariant-loop-group l = Found l.groups l.group-index l.left (slice_get (flat_map group_choices l.groups) l.fn.number)
