-- What a state of a chain is.
use Rattle.std.specs.Prelude.{◌≡◌, ℕ, ℤ, ◌≤ℤ◌, List, Some, length, map, slice_get}
use Rattle.chain_model.specs.declared.chain.Var.{Var}
use Rattle.chain_model.specs.declared.chain.Chain.{Chain}

-- a list of values, one for each variable; a boolean is 0 or 1
abbrev pub State : Type 0
State = List ℤ

-- a value is within a variable's range
abbrev pub IsInRange : Var → ℤ → Type 0
IsInRange var value = (var.lo ≤ℤ value) × (value ≤ℤ var.hi)

-- a state of a chain has one value for each variable, within its range
pub record IsState (chain : Chain) (state : State) : Type 0 where
  pub long : length state ≡ length chain.vars
  pub in_range : (number : ℕ) (var : Var) (value : ℤ)
      → slice_get chain.vars number ≡ Some var → slice_get state number ≡ Some value → IsInRange var value

-- the initial state: each variable has the value that it starts with
abbrev pub initial_of : Chain → State
initial_of chain = map (λ var. var.init) chain.vars
