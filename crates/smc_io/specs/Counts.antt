-- Counts that rise by one up to 2^64 - 1, their last value, and what a call does to a count of faults.
use Rattle.std.specs.Prelude.{◌≡◌, ℕ, ◌+◌, ◌-◌, ◌^◌, ◌<◌, ◌≤◌, min, max, List, Contains, Result, OnOk, OnErr}

-- the count after one more: at its last value it stands still
abbrev pub risen : ℕ → ℕ
risen count = max count (min (count + 1) (2 ^ 64 - 1))

-- the count is higher now than before
abbrev pub Rose : ℕ → ℕ → Type 0
Rose before now = before < now

-- what a call does to a count of faults: it never falls, Ok leaves it as it was, and a failure comes only where it rose in the call or stood at its last value before
pub record HasCause {T E : Type 0} (before now : ℕ) (result : Result T E) : Type 0 where
  pub later : before ≤ now
  pub kept : OnOk result (now ≡ before)
  pub failed : OnErr result (before < 2 ^ 64 - 1 → Rose before now)

-- after this many calls, the number of the next one, counted from 1, stands in the list of calls that are to fail
abbrev pub IsToFail : List ℕ → ℕ → Type 0
IsToFail fail calls = Contains fail (risen calls)
