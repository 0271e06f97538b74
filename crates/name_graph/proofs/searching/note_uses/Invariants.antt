use Rattle.std.proofs.Common.{take}
use Rattle.name_graph.specs.Search.{Adds}
use Rattle.name_graph.proofs.searching.note_uses.Given as goal

-- the places so far are noted
abbrev pub invariant-loop-place : goal.invariant-loop-place
invariant-loop-place l = Adds (take l.place-index l.uses) l.initial.seen l.seen l.initial.rest.items l.rest.items
