-- A whole number as a power of two times a mantissa.
use Rattle.std.proofs.Common.{◌≡◌, ℕ, suc, ◌+◌, ◌-◌, ◌*◌, ◌%◌, ◌^◌, ◌<◌, ◌≤◌, sym, ap, ◌∙◌, subst, arith}
use Rattle.std.proofs.Math.Nat.{mul-le-mul_right, mul-lt-mul_of_pos_right, two-pow-succ, lt_of_not-le, mod-eq_of_lt}
use Rattle.std.proofs.Math.Pow.{pow_pos, pow_mono}
use Rattle.std.proofs.lemmas.Nat.{pow-add, leading_top}
use Rattle.std.specs.Int.Count.{count_leading_zeros}
use Rattle.log_bracket.specs.Scaled.{whole_log2, scaled}
use Rattle.log_bracket.proofs.PowerLemmas.{exponents_ordered}
use Rattle.log_bracket.proofs.RunLemmas.{InRange, StaysBelow, StaysAbove}

-- the place of the highest binary digit: the number lies between two powers of two
pub record IsWholeLog (x k : ℕ) : Type 0 where
  pub digits : count_leading_zeros 64 x + suc k ≡ 64
  pub below : 2 ^ k ≤ x
  pub above : x < 2 ^ suc k
  pub small : k < 62

-- each number from 1 on has one
pub whole_log : (x : ℕ) → 1 ≤ x → x < 2 ^ 62 → IsWholeLog x (whole_log2 x)
whole_log x positive small =
    let found : (j : ℕ) × (count_leading_zeros 64 x + suc j ≡ 64) × (2 ^ j ≤ x) × (x < 2 ^ suc j) =
    leading_top 64 x positive (omega arith) in
    let j : ℕ = found.0 in
    let digits : count_leading_zeros 64 x + suc j ≡ 64 = found.1 in
    let below : 2 ^ j ≤ x = found.2 in
    let above : x < 2 ^ suc j = found.3 in
    let power : 2 ^ j < 2 ^ 62 = omega arith in
    let is : j ≡ whole_log2 x = omega arith in
    let P : ℕ → Type 0 = λ k. IsWholeLog x k in
    subst P is (record { digits = digits; below = below; above = above; small = exponents_ordered j 62 power })

-- two factors of a power of two
split_power : (k : ℕ) → k < 62 → 2 ^ k * 2 ^ (62 - k) ≡ 2 ^ 62
split_power k small =
    let whole : k + (62 - k) ≡ 62 = omega arith in
    sym (pow-add 2 k (62 - k)) ∙ ap (λ (e : ℕ). 2 ^ e) whole

-- the number is its power of two times its mantissa
pub scaled_product : (x k : ℕ) → k < 62 → 2 ^ k * (x * 2 ^ (62 - k)) ≡ x * 2 ^ 62
scaled_product x k small =
    let split : 2 ^ k * 2 ^ (62 - k) ≡ 2 ^ 62 = split_power k small in
    let along : x * (2 ^ k * 2 ^ (62 - k)) ≡ x * 2 ^ 62 = ap (λ (p : ℕ). x * p) split in
    omega arith

-- the mantissa is from 1 up to but not including 2
pub scaled_in_range : (x : ℕ) → 1 ≤ x → x < 2 ^ 62 → InRange (scaled x)
scaled_in_range x positive small =
    let k : ℕ = whole_log2 x in
    let is : IsWholeLog x k = whole_log x positive small in
    let split : 2 ^ k * 2 ^ (62 - k) ≡ 2 ^ 62 = split_power k is.small in
    let least : 2 ^ k * 2 ^ (62 - k) ≤ x * 2 ^ (62 - k) = mul-le-mul_right (2 ^ (62 - k)) is.below in
    let most : x * 2 ^ (62 - k) < 2 ^ suc k * 2 ^ (62 - k) = mul-lt-mul_of_pos_right is.above (pow_pos (62 - k)) in
    let doubled : 2 ^ suc k ≡ 2 ^ k + 2 ^ k = two-pow-succ k in
    let twice : 2 ^ suc k * 2 ^ (62 - k) ≡ (2 ^ k + 2 ^ k) * 2 ^ (62 - k) = ap (λ (p : ℕ). p * 2 ^ (62 - k)) doubled in
    record { least = omega arith; most = omega arith }

-- it is not yet away from the number
pub scaled_stays_below : (x : ℕ) → 1 ≤ x → x < 2 ^ 62 → StaysBelow x 0 (scaled x)
scaled_stays_below x positive small =
    let is : IsWholeLog x (whole_log2 x) = whole_log x positive small in
    let product : 2 ^ whole_log2 x * (x * 2 ^ (62 - whole_log2 x)) ≡ x * 2 ^ 62 = scaled_product x (whole_log2 x) is.small in
    record { below = omega arith; near = omega arith }

pub scaled_stays_above : (x : ℕ) → 1 ≤ x → x < 2 ^ 62 → StaysAbove x 0 (scaled x)
scaled_stays_above x positive small =
    let is : IsWholeLog x (whole_log2 x) = whole_log x positive small in
    let product : 2 ^ whole_log2 x * (x * 2 ^ (62 - whole_log2 x)) ≡ x * 2 ^ 62 = scaled_product x (whole_log2 x) is.small in
    record { above = omega arith; near = omega arith }

-- a power of two has the mantissa of 1
pub scaled_power : (k x : ℕ) → x ≡ 2 ^ k → x < 2 ^ 62 → scaled x ≡ record { exponent = k; mantissa = 2 ^ 62 }
scaled_power k x power small =
    let positive : 1 ≤ x = let some : 0 < 2 ^ k = pow_pos k in omega arith in
    let is : IsWholeLog x (whole_log2 x) = whole_log x positive small in
    let not_above : k < suc (whole_log2 x) = exponents_ordered k (suc (whole_log2 x)) (omega (arith, is.above)) in
    let not_below : whole_log2 x < suc k =
    lt_of_not-le (λ (other : suc k ≤ whole_log2 x).
    let powers : 2 ^ suc k ≤ 2 ^ whole_log2 x = pow_mono other in
    let doubled : 2 ^ suc k ≡ 2 ^ k + 2 ^ k = two-pow-succ k in
    let some : 0 < 2 ^ k = pow_pos k in
    omega (arith, is.below)) in
    let same : whole_log2 x ≡ k = omega arith in
    let split : 2 ^ k * 2 ^ (62 - k) ≡ 2 ^ 62 = split_power k (omega (arith, is.small)) in
    let mantissa_is : x * 2 ^ (62 - whole_log2 x) ≡ 2 ^ 62 =
    ap (λ (e : ℕ). x * 2 ^ (62 - e)) same ∙ (ap (λ (y : ℕ). y * 2 ^ (62 - k)) power ∙ split) in
    λ i. record { exponent = same i; mantissa = mantissa_is i }

-- the mantissa fits 64 bits
pub scaled_fits : (x : ℕ) → 1 ≤ x → x < 2 ^ 62 → x * 2 ^ (62 - whole_log2 x) % 2 ^ 64 ≡ x * 2 ^ (62 - whole_log2 x)
scaled_fits x positive small =
    let range : InRange (scaled x) = scaled_in_range x positive small in
    let most : x * 2 ^ (62 - whole_log2 x) < 2 ^ 63 = range.most in
    mod-eq_of_lt (omega arith)
