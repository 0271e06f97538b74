-- Orders of some places of a graph, which grow until they are whole or stuck.
use Rattle.std.specs.Prelude.{◌≡◌, ◌<◌, ◌+◌, ◌⊎◌, ℕ, List, Bool, true, false, not, length, All, Contains, Some, slice_get, take, count_by}
use Rattle.std.specs.List.{slice_index_or, AllPairs}
use Rattle.name_graph.specs.Graph.{Graph, Uses}

-- a place is marked
abbrev pub IsMarked : List Bool → ℕ → Type 0
IsMarked marks j = slice_index_or marks j false ≡ true

-- how many places are not marked
abbrev pub unmarked : List Bool → ℕ
unmarked marks = count_by not marks

-- the places that are done stand in the order, each once and after all that it uses
pub record IsPartOrder (graph : Graph) (done : List Bool) (order : List ℕ) : Type 0 where
  pub within : All (λ i. i < length graph) order
  pub once : AllPairs (λ i j. ¬ (i ≡ j)) order
  pub after : (k i j : ℕ) → slice_get order k ≡ Some i → Uses graph i j → Contains (take k order) j
  pub marked : (j : ℕ) → IsMarked done j → Contains order j
  pub only : (j : ℕ) → Contains order j → IsMarked done j
  pub size : length done ≡ length graph
  pub count : length order + unmarked done ≡ length graph

-- each place below n that is not done uses another that is not
abbrev pub IsStuckBelow : Graph → List Bool → ℕ → Type 0
IsStuckBelow graph done n = (i : ℕ) → i < n → ¬ IsMarked done i → (j : ℕ) × Uses graph i j × ¬ IsMarked done j

-- each place that is not done uses another that is not
abbrev pub IsStuck : Graph → List Bool → Type 0
IsStuck graph done = IsStuckBelow graph done (length graph)

-- one visit of a place: it is done already or uses one that is not done, and nothing changes, or the order is longer
abbrev pub Moves : Graph → ℕ → List Bool → List Bool → List ℕ → List ℕ → Type 0
Moves graph i old new before order =
    ((new ≡ old) × (order ≡ before) × (¬ IsMarked old i → (j : ℕ) × Uses graph i j × ¬ IsMarked old j))
    ⊎ (length order ≡ length before + 1)
