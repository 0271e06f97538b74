-- The two boundaries of a sequential probability ratio test: each compares two whole numbers, its sides.
use Rattle.std.specs.Prelude.{ℕ, ◌+◌, ◌-◌, ◌*◌, ◌^◌, ◌<◌, ◌≤◌}
use Rattle.wald_test.specs.SequentialTest.{SequentialTest}

-- a side of a boundary: a factor for each success, a factor for each failure, and a factor that stands once
pub record Side : Type 0 where
  pub success : ℕ
  pub failure : ℕ
  pub once : ℕ

-- the whole number that a side is after these counts of successes and failures; 0^0 is 1
unfoldable pub number_of : Side → ℕ → ℕ → ℕ
number_of side d f = side.success ^ d * side.failure ^ f * side.once

-- the likelihood of the counts under the lower probability, times 1 - alpha
abbrev pub accept_left : SequentialTest → Side
accept_left t = record { success = t.lower; failure = t.parts - t.lower; once = t.error_parts - t.alpha }

-- the likelihood of the counts under the upper probability, times beta
abbrev pub accept_right : SequentialTest → Side
accept_right t = record { success = t.upper; failure = t.parts - t.upper; once = t.beta }

-- the likelihood of the counts under the lower probability, times alpha
abbrev pub reject_left : SequentialTest → Side
reject_left t = record { success = t.lower; failure = t.parts - t.lower; once = t.alpha }

-- the likelihood of the counts under the upper probability, times 1 - beta
abbrev pub reject_right : SequentialTest → Side
reject_right t = record { success = t.upper; failure = t.parts - t.upper; once = t.error_parts - t.beta }

-- the boundary of acceptance is crossed
abbrev pub CrossesAccept : SequentialTest → ℕ → ℕ → Type 0
CrossesAccept t d f = number_of (accept_left t) d f ≤ number_of (accept_right t) d f

-- the boundary of rejection is crossed
abbrev pub CrossesReject : SequentialTest → ℕ → ℕ → Type 0
CrossesReject t d f = number_of (reject_right t) d f ≤ number_of (reject_left t) d f

-- not all four sides are 0
abbrev pub HasSide : SequentialTest → ℕ → ℕ → Type 0
HasSide t d f =
    0 < number_of (accept_left t) d f + number_of (accept_right t) d f + (number_of (reject_left t) d f + number_of (reject_right t) d f)
