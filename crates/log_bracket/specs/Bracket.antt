-- The bracket of a logarithm: two runs of 48 squarings, one rounded down and one rounded up.
use Rattle.std.specs.Prelude.{◌≡◌, ℕ, zero, suc, ◌+◌, ◌^◌, ◌==◌, if◌then◌else◌}
use Rattle.log_bracket.specs.declared.scaled.Scaled.{Scaled}
use Rattle.log_bracket.specs.Scaled.{scaled, squared_down, squared_up}

-- the lower run: a number after so many squarings, each rounded down
unfoldable pub lower_run : ℕ → Scaled → Scaled
lower_run zero s = s
lower_run (suc n) s = squared_down (lower_run n s)

-- the upper run: a number after so many squarings, each rounded up
unfoldable pub upper_run : ℕ → Scaled → Scaled
upper_run zero s = s
upper_run (suc n) s = squared_up (upper_run n s)

-- the least whole exponent whose power of two is not below the number
abbrev pub top_exponent : Scaled → ℕ
top_exponent s = if s.mantissa == 2 ^ 62 then s.exponent else s.exponent + 1

-- the bracket of 2^48 times the logarithm of a whole number to base 2
unfoldable pub bracket_of : ℕ → ℕ × ℕ
bracket_of x = ((lower_run 48 (scaled x)).exponent, top_exponent (upper_run 48 (scaled x)))

-- a power of two
abbrev pub IsPowerOfTwo : ℕ → Type 0
IsPowerOfTwo x = (k : ℕ) × (x ≡ 2 ^ k)
