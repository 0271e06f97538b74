-- A number with a point, as decimal digits.
use Rattle.std.specs.Prelude.{ℕ, suc, ◌+◌, ◌*◌, ◌/◌, ◌%◌, ◌^◌, not, List, ◌∷◌, ◌++◌, decimal, map, unsigned_abs}
use Rattle.std.specs.List.{range_with_len}
use Rattle.smc_num.specs.Fraction.{Fraction}
use Rattle.smc_num.specs.Gcd.{greatest, divides}

-- how many decimals a fraction is written with: one more than the greatest number, up to 18, that is not exact, and so the
-- least number that is exact, and one at least
abbrev pub decimals_of : Fraction → ℕ
decimals_of f = suc (greatest (λ k. not (divides f.den (10 ^ k))) 18)

-- the digit of a fraction at a place after the point, where the first place is 0
abbrev pub digit_after_point : Fraction → ℕ → ℕ
digit_after_point f place = 48 + (unsigned_abs f.num * 10 ^ suc place / f.den) % 10

-- a fraction as its whole part, a point, and its decimals
abbrev pub point_decimal : Fraction → List ℕ
point_decimal f = decimal (unsigned_abs f.num / f.den) ++ (46 ∷ map (digit_after_point f) (range_with_len 0 (decimals_of f)))
