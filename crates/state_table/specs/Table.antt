-- States that were met, in the order in which they came: the number of each is its position.
use Rattle.std.specs.Prelude.{◌≡◌, ◌⊎◌, ℕ, zero, suc, ◌/◌, min, max, ℤ, List, [], ◌∷◌, ◌++◌, take, drop}

-- a table of states, each of so many values
pub record Table : Type 0 where
  pub width : ℕ
  pub states : List (List ℤ)

-- for how many states of so many values there is room
abbrev pub room_of : ℕ → ℕ
room_of width = max (min (262144 / max width 1) 32768) 1

-- the states that stand in one row of values, so many of so many values each
abbrev pub states_of : ℕ → ℕ → List ℤ → List (List ℤ)
states_of width zero words = []
states_of width (suc count) words = take width words ∷ states_of width count (drop width words)

-- the states are as before, or as before with this one after them
abbrev pub AddsAtMost : List (List ℤ) → List (List ℤ) → List ℤ → Type 0
AddsAtMost old new state = (new ≡ old) ⊎ (new ≡ old ++ (state ∷ []))
