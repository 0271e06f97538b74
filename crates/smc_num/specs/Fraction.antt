-- Fractions in lowest terms, within the limits of numbers.
use Rattle.std.specs.Prelude.{◌≡◌, ℕ, zero, suc, ◌/◌, ◌^◌, ◌<◌, ◌&&◌, nat_lt, ℤ, pos, negsuc, ◌*ℤ◌, neg_ℤ, int_div, unsigned_abs, Bool, true, false, if◌then◌else◌, Result, Ok, Err}
use Rattle.smc_num.specs.declared.fault.NumFault.{NumFault}
use Rattle.smc_num.specs.declared.fault.NumFault.TheVariants.{ZeroDivisor, OutOfLimit}
use Rattle.smc_num.specs.Gcd.{gcd_of, IsCoprime}

-- a numerator lies between -limit and limit, a denominator below limit
abbrev pub limit : ℕ
limit = 2 ^ 62

-- a numerator and a denominator
pub record Fraction : Type 0 where
  pub num : ℤ
  pub den : ℕ

-- in lowest terms and within the limits
pub record IsFrac (f : Fraction) : Type 0 where
  pub coprime : IsCoprime (unsigned_abs f.num) f.den
  pub num_small : unsigned_abs f.num < limit
  pub den_small : f.den < limit
  pub den_some : 0 < f.den

-- n, or -n where the flag is set
abbrev pub signed : Bool → ℕ → ℤ
signed false n = pos n
signed true n = neg_ℤ (pos n)

-- f has the value n/d
abbrev pub HasValue : Fraction → ℤ → ℕ → Type 0
HasValue f n d = f.num *ℤ pos d ≡ n *ℤ pos f.den

-- n/d as it is written, where both are within the limits
abbrev pub within : ℤ → ℕ → Result Fraction NumFault
within n d = if nat_lt (unsigned_abs n) limit && nat_lt d limit then Ok (record { num = n; den = d }) else Err OutOfLimit

-- n/d in lowest terms, where that is within the limits
unfoldable pub lowest : ℤ → ℕ → Result Fraction NumFault
lowest n d = let shared = gcd_of (unsigned_abs n) d in within (int_div n (pos shared)) (d / shared)

-- n/d for a denominator of any sign
unfoldable pub fraction_of : ℤ → ℤ → Result Fraction NumFault
fraction_of n (pos zero) = Err ZeroDivisor
fraction_of n (pos (suc d)) = lowest n (suc d)
fraction_of n (negsuc d) = lowest (neg_ℤ n) (suc d)
