-- How numbers are written in texts of bytes, and the value of each spelling.
use Rattle.std.specs.Prelude.{◌≡◌, ◌≢◌, ℕ, suc, ◌*◌, ◌/◌, ◌^◌, ◌==◌, ◌⊎◌, ◌&&◌, ◌||◌, nat_lt, nat_le, ℤ, pos, negsuc, ◌+ℤ◌, ◌-ℤ◌, neg_ℤ, int_lt, int_le, unsigned_abs, Bool, true, false, List, [], ◌∷◌, ◌++◌, length, if◌then◌else◌, Result, Ok, Err}
use Rattle.std.specs.Str.Parse.{IsNumeral, AllDigits, digits_value}
use Rattle.smc_num.specs.declared.fault.NumFault.{NumFault}
use Rattle.smc_num.specs.declared.fault.ReadNum.{ReadNum}
use Rattle.smc_num.specs.declared.fault.ReadNum.TheVariants.{OutOfLimit}
use Rattle.smc_num.specs.Gcd.{greatest, divides}
use Rattle.smc_num.specs.Fraction.{Fraction, limit, signed, lowest}

-- what a number is written as: decimal digits with a power of ten, or two whole numbers with a bar between them
pub data Written : Type 0 where
  decimal : List ℕ → ℤ → Written
  ratio : List ℕ → List ℕ → Written

-- a byte is `e` or `E`
abbrev pub IsMark : ℕ → Type 0
IsMark c = (c ≡ 101) ⊎ (c ≡ 69)

-- an exponent of ten: nothing, which is 0, or `e` or `E`, then `+` or `-` or no sign, then digits
pub data IsExponent : List ℕ → ℤ → Type 0 where
  none : IsExponent [] (pos 0)
  bare : (mark : ℕ) (digits : List ℕ) → IsMark mark → IsNumeral 10 digits → IsExponent (mark ∷ digits) (pos (digits_value 10 digits))
  plus : (mark : ℕ) (digits : List ℕ) → IsMark mark → IsNumeral 10 digits → IsExponent (mark ∷ (43 ∷ digits)) (pos (digits_value 10 digits))
  minus : (mark : ℕ) (digits : List ℕ) → IsMark mark → IsNumeral 10 digits → IsExponent (mark ∷ (45 ∷ digits)) (neg_ℤ (pos (digits_value 10 digits)))

-- a number without a sign: digits and an exponent; digits with a point before the last of them, of which those before the point may be left out, and an exponent; or digits, `/` and digits whose number is not 0
pub data IsSpelled : List ℕ → Written → Type 0 where
  whole : (digits exponent : List ℕ) (power : ℤ) → IsNumeral 10 digits → IsExponent exponent power → IsSpelled (digits ++ exponent) (decimal digits power)
  point : (front part exponent : List ℕ) (power : ℤ) → AllDigits 10 front → IsNumeral 10 part → IsExponent exponent power
      → IsSpelled (front ++ (46 ∷ (part ++ exponent))) (decimal (front ++ part) (power -ℤ pos (length part)))
  bar : (top bottom : List ℕ) → IsNumeral 10 top → IsNumeral 10 bottom → digits_value 10 bottom ≢ 0 → IsSpelled (top ++ (47 ∷ bottom)) (ratio top bottom)

-- a number that may have `-` before it; the flag says whether it has
pub data IsNumber : List ℕ → Bool → Written → Type 0 where
  without_minus : (text : List ℕ) (written : Written) → IsSpelled text written → IsNumber text false written
  with_minus : (text : List ℕ) (written : Written) → IsSpelled text written → IsNumber (45 ∷ text) true written

-- how many zeros stand at the end of a number in decimal
unfoldable pub zeros_of : ℕ → ℕ
zeros_of n = greatest (λ k. divides (10 ^ k) n) n

-- m·10^e is too wide, where m has no zero at its end: m reaches the limit, e is below -18, or m·10^e is whole and reaches the limit
abbrev pub is_wide : ℕ → ℤ → Bool
is_wide m e = nat_le limit m || (int_lt e (negsuc 17) || (int_le (pos 0) e && nat_le limit (m * 10 ^ unsigned_abs e)))

-- a value that is outside the limits is too wide to be read
abbrev pub readable : Result Fraction NumFault → Result Fraction ReadNum
readable (Ok f) = Ok f
readable (Err fault) = Err OutOfLimit

-- m·10^e with a sign
abbrev pub scaled_of : Bool → ℕ → ℤ → Result Fraction NumFault
scaled_of negative m (pos e) = lowest (signed negative (m * 10 ^ e)) 1
scaled_of negative m (negsuc e) = lowest (signed negative m) (10 ^ suc e)

-- m·10^e with a sign, where it is not too wide
unfoldable pub limited_of : Bool → ℕ → ℤ → Result Fraction ReadNum
limited_of negative m e = if is_wide m e then Err OutOfLimit else readable (scaled_of negative m e)

-- n·10^p with a sign: the zeros at the end of n are counted into the power first
unfoldable pub decimal_of : Bool → ℕ → ℤ → Result Fraction ReadNum
decimal_of negative n p =
    let zeros = zeros_of n in
    if n == 0 then Ok (record { num = pos 0; den = 1 }) else limited_of negative (n / 10 ^ zeros) (p +ℤ pos zeros)

-- m/n with a sign, where both are within the limits
unfoldable pub ratio_of : Bool → ℕ → ℕ → Result Fraction ReadNum
ratio_of negative m n = if nat_lt m limit && nat_lt n limit then readable (lowest (signed negative m) n) else Err OutOfLimit

-- the value of what is written
abbrev pub value_of : Bool → Written → Result Fraction ReadNum
value_of negative (decimal digits power) = decimal_of negative (digits_value 10 digits) power
value_of negative (ratio top bottom) = ratio_of negative (digits_value 10 top) (digits_value 10 bottom)
