-- A number as its digits without the zeros at the end, and how many those are.
use Rattle.std.specs.Prelude.{◌≡◌, ◌≢◌, ℕ, ◌*◌, ◌%◌, ◌^◌, ◌<◌, ◌≤◌, ◌⊎◌}
use Rattle.smc_num.specs.Fraction.{limit}

-- n is m with so many zeros behind it, and m is below the limit and ends with no zero
pub record IsSignificant (n m zeros : ℕ) : Type 0 where
  pub value : n ≡ m * 10 ^ zeros
  pub small : m < limit
  pub proper : (m % 10 ≢ 0) ⊎ ((m ≡ 0) × (zeros ≡ 0))

-- without zeros at its end n still reaches the limit
abbrev pub IsLong : ℕ → Type 0
IsLong n = (m zeros : ℕ) → n ≡ m * 10 ^ zeros → limit ≤ m
