-- Which places of a list use which, which reach themselves, and orders in which each stands after what it uses.
use Rattle.std.specs.Prelude.{◌≡◌, ◌<◌, ℕ, List, [], length, All, Contains, Some, slice_get, take}
use Rattle.std.specs.List.{slice_index_or, AllPairs}

-- for each place the places that it uses
abbrev pub Graph : Type 0
Graph = List (List ℕ)

-- one place uses another
abbrev pub Uses : Graph → ℕ → ℕ → Type 0
Uses graph i j = Contains (slice_index_or graph i []) j

-- each use is of a place that is there
abbrev pub IsGraph : Graph → Type 0
IsGraph graph = All (λ uses. All (λ j. j < length graph) uses) graph

-- one place reaches another by one use or more
pub data Reaches (graph : Graph) : ℕ → ℕ → Type 0 where
  uses : {i j : ℕ} → Uses graph i j → Reaches graph i j
  through : {i j k : ℕ} → Uses graph i j → Reaches graph j k → Reaches graph i k

-- no place reaches itself
abbrev pub HasNoCycle : Graph → Type 0
HasNoCycle graph = (i : ℕ) → ¬ Reaches graph i i

-- the first place that reaches itself
pub record IsFirstCycle (graph : Graph) (i : ℕ) : Type 0 where
  pub within : i < length graph
  pub cycle : Reaches graph i i
  pub first : (j : ℕ) → j < i → ¬ Reaches graph j j

-- an order of all places, each once, in which each stands after all that it uses
pub record IsOrder (graph : Graph) (order : List ℕ) : Type 0 where
  pub within : All (λ i. i < length graph) order
  pub all : (i : ℕ) → i < length graph → Contains order i
  pub once : AllPairs (λ i j. ¬ (i ≡ j)) order
  pub after : (k i j : ℕ) → slice_get order k ≡ Some i → Uses graph i j → Contains (take k order) j

-- where there is an order, no place reaches itself
abbrev pub OrdersHaveNoCycle : Type 0
OrdersHaveNoCycle = (graph : Graph) (order : List ℕ) → IsOrder graph order → HasNoCycle graph

-- at most one place is the first that reaches itself
abbrev pub HasOneFirstCycle : Type 0
HasOneFirstCycle = (graph : Graph) (i j : ℕ) → IsFirstCycle graph i → IsFirstCycle graph j → i ≡ j
