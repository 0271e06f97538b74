-- The pick: how a draw chooses one of several parts, and for which draws a branch of a command is taken.
use Rattle.std.specs.Prelude.{ℕ, ◌+◌, ◌-◌, ◌*◌, ◌/◌, ◌^◌, ◌<◌, ◌≤◌}

-- the part that the draw w picks of so many equal parts, numbered from 0: w * parts / 2 ^ 64, rounded down
abbrev pub pick_of : ℕ → ℕ → ℕ
pick_of w parts = w * parts / 2 ^ 64

-- a branch is taken by the draw w: the pick is at least the sum of the weights before the branch, and below the sum
-- through it, both as numerators over the number of parts
abbrev pub IsTaken : ℕ → ℕ → ℕ → ℕ → Type 0
IsTaken before through parts w = (before ≤ pick_of w parts) × (pick_of w parts < through)

-- k is the least number with k * divisor at least n
pub record IsLeastCover (n divisor k : ℕ) : Type 0 where
  pub covers : n ≤ k * divisor
  pub least : (m : ℕ) → n ≤ m * divisor → k ≤ m

-- n / divisor, rounded up
abbrev pub ceil_div : ℕ → ℕ → ℕ
ceil_div n divisor = (n + (divisor - 1)) / divisor

-- the first draw whose pick is at least `sum`: sum * 2 ^ 64 / parts, rounded up
abbrev pub first_draw : ℕ → ℕ → ℕ
first_draw sum parts = ceil_div (sum * 2 ^ 64) parts
