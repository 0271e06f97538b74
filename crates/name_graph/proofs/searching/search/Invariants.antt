use Rattle.std.proofs.Common.{◌+◌, ◌*◌, length}
use Rattle.name_graph.specs.PartOrder.{unmarked}
use Rattle.name_graph.specs.Search.{IsSearch}
use Rattle.name_graph.proofs.searching.search.Given as goal

-- what is marked is reached, and its uses are marked once it waits no more
abbrev pub invariant-loop-place : goal.invariant-loop-place
invariant-loop-place l = IsSearch l.graph l.start l.seen l.rest.items

-- a place that is marked begins to wait
abbrev pub decreases-loop-place : goal.decreases-loop-place
decreases-loop-place l = 2 * unmarked l.seen + length l.rest.items
