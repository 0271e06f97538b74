-- What is found of a state by the slots.
use Rattle.std.specs.Prelude.{◌≡◌, ℕ, ◌<◌, ℤ, List, Some, slice_get}
use Rattle.state_table.specs.declared.slots.Slot.{Slot}
use Rattle.state_table.specs.declared.slots.Slot.TheVariants as s
use Rattle.state_table.specs.Table.{states_of}

-- a state has the number that was found, or the slot that was found is one of so many
abbrev pub IsSlotOf : List ℤ → ℕ → ℕ → ℕ → List ℤ → Slot → Type 0
IsSlotOf words width count many state (s.Met number) = slice_get (states_of width count words) number ≡ Some state
IsSlotOf words width count many state (s.Free at) = at < many
IsSlotOf words width count many state s.Crowded = Unit
