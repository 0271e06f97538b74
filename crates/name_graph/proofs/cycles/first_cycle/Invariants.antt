use Rattle.std.proofs.Common.{ℕ, ◌<◌}
use Rattle.name_graph.specs.Graph.{Reaches}
use Rattle.name_graph.proofs.cycles.first_cycle.Given as goal

-- none of the places so far reaches itself
abbrev pub invariant-loop-place : goal.invariant-loop-place
invariant-loop-place l = (j : ℕ) → j < l.place → ¬ Reaches l.graph j j
