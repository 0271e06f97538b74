-- A search for all that a place reaches.
use Rattle.std.specs.Prelude.{◌≡◌, ◌≤◌, ◌+◌, ◌⊎◌, ℕ, List, Bool, length, Contains}
use Rattle.name_graph.specs.Graph.{Graph, Uses, Reaches}
use Rattle.name_graph.specs.PartOrder.{IsMarked, unmarked}

-- these places are marked, and those that were not marked before wait
pub record Adds (uses : List ℕ) (old new : List Bool) (waited waits : List ℕ) : Type 0 where
  pub all : (j : ℕ) → Contains uses j → IsMarked new j
  pub kept : (j : ℕ) → IsMarked old j → IsMarked new j
  pub from : (j : ℕ) → IsMarked new j → IsMarked old j ⊎ (Contains uses j × Contains waits j)
  pub waiting : (j : ℕ) → Contains waited j → Contains waits j
  pub only : (j : ℕ) → Contains waits j → Contains waited j ⊎ IsMarked new j
  pub count : length waits + unmarked new ≡ length waited + unmarked old
  pub fewer : unmarked new ≤ unmarked old

-- a search from a place: what is marked is reached, and its uses are marked once it waits no more
pub record IsSearch (graph : Graph) (start : ℕ) (seen : List Bool) (rest : List ℕ) : Type 0 where
  pub size : length seen ≡ length graph
  pub reached : (j : ℕ) → IsMarked seen j → Reaches graph start j
  pub begun : (j : ℕ) → Uses graph start j → IsMarked seen j
  pub closed : (i : ℕ) → IsMarked seen i → Contains rest i ⊎ ((j : ℕ) → Uses graph i j → IsMarked seen j)
  pub waits : (i : ℕ) → Contains rest i → IsMarked seen i
