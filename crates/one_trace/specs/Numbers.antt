-- States by their numbers.
use Rattle.std.specs.Prelude.{◌≡◌, ℕ, List, ◌++◌, Option, Some, None, slice_get}
use Rattle.chain_model.specs.States.{State}

-- the state that a trace stands at: that of the number, or the one that is written out
abbrev pub IsAt : List State → Option ℕ → State → State → Type 0
IsAt states None written state = written ≡ state
IsAt states (Some number) written state = slice_get states number ≡ Some state

-- the states are as before, and further ones may follow them
abbrev pub GoesOnFrom : List State → List State → Type 0
GoesOnFrom old new = (more : List State) × (new ≡ old ++ more)
