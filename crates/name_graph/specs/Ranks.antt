-- Ranks of places, by which most places are seen not to reach themselves.
use Rattle.std.specs.Prelude.{◌≤◌, ℕ, List}
use Rattle.std.specs.List.{slice_index_or}
use Rattle.name_graph.specs.Graph.{Graph, Uses}

-- the rank of a place, 0 where none is known
abbrev pub rank_of : List ℕ → ℕ → ℕ
rank_of ranks i = slice_index_or ranks i 0

-- no place is ranked below one that it uses
abbrev pub AreRanks : Graph → List ℕ → Type 0
AreRanks graph ranks = (i j : ℕ) → Uses graph i j → rank_of ranks j ≤ rank_of ranks i
