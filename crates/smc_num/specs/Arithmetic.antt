-- The operations on fractions: each is one equation in whole numbers, brought to lowest terms.
use Rattle.std.specs.Prelude.{ℕ, zero, suc, ◌*◌, ◌/◌, ◌^◌, ◌&&◌, nat_lt, ℤ, pos, negsuc, ◌+ℤ◌, ◌-ℤ◌, ◌*ℤ◌, neg_ℤ, unsigned_abs, if◌then◌else◌, Result, Ok, Err}
use Rattle.std.specs.Int.{int_pow, int_rem_euclid, int_div_euclid}
use Rattle.std.specs.Ordering.{int_cmp}
use Rattle.std.specs.declared.cmp.Ordering.{Ordering}
use Rattle.smc_num.specs.declared.fault.NumFault.{NumFault}
use Rattle.smc_num.specs.declared.fault.NumFault.TheVariants.{ZeroDivisor, OutsideDomain, OutOfLimit}
use Rattle.smc_num.specs.Gcd.{lcm_of}
use Rattle.smc_num.specs.Fraction.{Fraction, limit, lowest, fraction_of}

-- a + b
unfoldable pub sum_of : Fraction → Fraction → Result Fraction NumFault
sum_of a b = lowest (a.num *ℤ pos b.den +ℤ b.num *ℤ pos a.den) (a.den * b.den)

-- a - b
unfoldable pub difference_of : Fraction → Fraction → Result Fraction NumFault
difference_of a b = lowest (a.num *ℤ pos b.den -ℤ b.num *ℤ pos a.den) (a.den * b.den)

-- a times b
unfoldable pub product_of : Fraction → Fraction → Result Fraction NumFault
product_of a b = lowest (a.num *ℤ b.num) (a.den * b.den)

-- a divided by b; a zero divisor has no value
unfoldable pub quotient_of : Fraction → Fraction → Result Fraction NumFault
quotient_of a b = fraction_of (a.num *ℤ pos b.den) (pos a.den *ℤ b.num)

-- a to the power k; a negative exponent has no value, and the power 0 is 1
unfoldable pub power_of : Fraction → ℤ → Result Fraction NumFault
power_of a (pos k) = lowest (int_pow a.num k) (a.den ^ k)
power_of a (negsuc k) = Err OutsideDomain

-- the remainder of i by n, from 0 to n - 1; a zero or negative modulus has no value
unfoldable pub modulo_of : ℤ → ℤ → Result ℤ NumFault
modulo_of i (pos zero) = Err ZeroDivisor
modulo_of i (pos (suc n)) = Ok (int_rem_euclid i (pos (suc n)))
modulo_of i (negsuc n) = Err OutsideDomain

-- which of a and b is the less
unfoldable pub compare_of : Fraction → Fraction → Ordering
compare_of a b = int_cmp (a.num *ℤ pos b.den) (b.num *ℤ pos a.den)

-- the greatest whole number that is at most a
unfoldable pub floor_of : Fraction → ℤ
floor_of a = int_div_euclid a.num (pos a.den)

-- the least whole number that is at least a
unfoldable pub ceil_of : Fraction → ℤ
ceil_of a = neg_ℤ (floor_of (record { num = neg_ℤ a.num; den = a.den }))

-- two numerators over one denominator, where all three are within the limits
abbrev pub within_all : ℤ → ℤ → ℕ → Result (ℤ × ℤ × ℤ) NumFault
within_all left right den =
    if nat_lt (unsigned_abs left) limit && (nat_lt (unsigned_abs right) limit && nat_lt den limit)
    then Ok (left, right, pos den) else Err OutOfLimit

-- both numerators over the least common denominator, and that denominator
unfoldable pub common_of : Fraction → Fraction → Result (ℤ × ℤ × ℤ) NumFault
common_of a b =
    let den = lcm_of a.den b.den in
    within_all (a.num *ℤ pos (den / a.den)) (b.num *ℤ pos (den / b.den)) den
