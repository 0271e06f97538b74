use Rattle.std.proofs.Common.{◌≡◌, take}
use Rattle.std.specs.Prelude.{flat_map}
use Rattle.trace_meaning.specs.Groups.{group_choices}
use Rattle.trace_meaning.proofs.listing.first.Given as goal

-- the choices so far
abbrev pub invariant-loop-number : goal.invariant-loop-number
invariant-loop-number l = l.list ≡ take l.number (flat_map group_choices l.groups)
