-- Texts of lines and of fractions.
use Rattle.std.specs.Prelude.{ℕ, ◌/◌, ◌==◌, List, ◌∷◌, ◌++◌, pos, codes, decimal, if◌then◌else◌}
use Rattle.std.specs.Fmt.{signed_decimal}
use Rattle.smc_num.specs.Gcd.{gcd_of}
use Rattle.smc_num.specs.Fraction.{Fraction}

-- a line, of a label, a value and a line feed, before the rest of the text
abbrev pub line : List ℕ → List ℕ → List ℕ → List ℕ
line label value rest = label ++ (value ++ (10 ∷ rest))

-- a fraction as `num/den`, or as `num` alone where the denominator is 1
abbrev pub fraction_text : Fraction → List ℕ
fraction_text a =
    if a.den == 1 then signed_decimal a.num else signed_decimal a.num ++ (codes "/" ++ decimal a.den)

-- the quotient of two whole numbers as a fraction in lowest terms
unfoldable pub quotient : ℕ → ℕ → Fraction
quotient n d = record { num = pos (n / gcd_of n d); den = d / gcd_of n d }
