-- The greatest common divisor and the least common multiple of two numbers.
use Rattle.std.specs.Prelude.{ℕ, zero, suc, ◌+◌, ◌*◌, ◌/◌, ◌%◌, Bool, ◌==◌, ◌&&◌, if◌then◌else◌}
use Rattle.std.specs.Int.{IsGcd}

-- the greatest number up to a bound that passes a test, or 0
unfoldable pub greatest : (ℕ → Bool) → ℕ → ℕ
greatest test zero = zero
greatest test (suc n) = if test (suc n) then suc n else greatest test n

-- d divides n, as a test
abbrev pub divides : ℕ → ℕ → Bool
divides d n = n % d == 0

-- the greatest number that divides both; each number divides 0 and 0, whose greatest common divisor is 0
unfoldable pub gcd_of : ℕ → ℕ → ℕ
gcd_of a b = greatest (λ d. divides d a && divides d b) (a + b)

-- the least common multiple of two numbers
unfoldable pub lcm_of : ℕ → ℕ → ℕ
lcm_of a b = a * (b / gcd_of a b)

-- 1 alone divides both
abbrev pub IsCoprime : ℕ → ℕ → Type 0
IsCoprime a b = IsGcd a b 1
