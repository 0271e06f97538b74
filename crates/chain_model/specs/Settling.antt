-- What a path formula says of a list of pairs, and when the first pairs settle it (bounded PCTL).
use Rattle.std.specs.Prelude.{◌≡◌, ℕ, ◌<◌, ◌≤◌, Bool, true, false, List, ◌++◌, Some, length, slice_get, option_map}
use Rattle.chain_model.specs.declared.job.PathKind.{PathKind}
use Rattle.chain_model.specs.declared.job.PathKind.TheVariants.{Next, Until, Finally, Globally}
use Rattle.chain_model.specs.Paths.{horizon_of}
use Rattle.chain_model.specs.Trace.{Pair}

-- the first, or the second, state formula holds at this position
abbrev pub FirstAt : List Pair → ℕ → Type 0
FirstAt pairs position = option_map (λ pair. pair.0) (slice_get pairs position) ≡ Some true

abbrev pub SecondAt : List Pair → ℕ → Type 0
SecondAt pairs position = option_map (λ pair. pair.1) (slice_get pairs position) ≡ Some true

-- the second state formula holds at some position within the horizon, and the first at each position before it
pub record HoldsUntil (horizon : ℕ) (pairs : List Pair) : Type 0 where
  pub position : ℕ
  pub within : position ≤ horizon
  pub second : SecondAt pairs position
  pub first : (before : ℕ) → before < position → FirstAt pairs before

-- the second state formula holds at some position within the horizon
pub record HoldsFinally (horizon : ℕ) (pairs : List Pair) : Type 0 where
  pub position : ℕ
  pub within : position ≤ horizon
  pub second : SecondAt pairs position

-- the second state formula holds at each position within the horizon
abbrev pub HoldsGlobally : ℕ → List Pair → Type 0
HoldsGlobally horizon pairs = (position : ℕ) → position ≤ horizon → SecondAt pairs position

-- the path formula holds of a list of pairs that is longer than its horizon
abbrev pub Holds : PathKind → List Pair → Type 0
Holds Next pairs = SecondAt pairs 1
Holds (Until k) pairs = HoldsUntil k pairs
Holds (Finally k) pairs = HoldsFinally k pairs
Holds (Globally k) pairs = HoldsGlobally k pairs

-- a fact has this truth value
abbrev pub HasTruth : Bool → Type 0 → Type 0
HasTruth true Fact = Fact
HasTruth false Fact = ¬ Fact

-- pairs settle the path formula with a truth value where it has that value for every list longer than the horizon that begins with them
abbrev pub Settles : PathKind → List Pair → Bool → Type 0
Settles kind pairs truth = (more : List Pair) → horizon_of kind < length (pairs ++ more) → HasTruth truth (Holds kind (pairs ++ more))
