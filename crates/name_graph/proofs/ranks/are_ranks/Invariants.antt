use Rattle.std.proofs.Common.{ℕ, ◌<◌, ◌≤◌}
use Rattle.name_graph.specs.Graph.{Uses}
use Rattle.name_graph.specs.Ranks.{rank_of}
use Rattle.name_graph.proofs.ranks.are_ranks.Given as goal

-- no place so far is ranked below one that it uses
abbrev pub invariant-loop-place : goal.invariant-loop-place
invariant-loop-place l = (i j : ℕ) → i < l.place → Uses l.graph i j → rank_of l.ranks j ≤ rank_of l.ranks i
