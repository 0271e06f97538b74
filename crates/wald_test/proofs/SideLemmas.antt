-- The sums of a side enclose 2^48 times the logarithm of its number, and are not far from each other.
use Rattle.std.proofs.Common.{◌≡◌, ℕ, zero, suc, ◌+◌, ◌*◌, ◌^◌, ◌<◌, ◌≤◌, sym, ap, ◌∙◌, subst, arith}
use Rattle.std.proofs.Math.Nat.{pos_of_ne-zero, pow-suc, mul-le-mul_left, zero-mul, mul-zero}
use Rattle.log_bracket.proofs.BracketLemmas.{bracket_low, bracket_high, bracket_width}
use Rattle.log_bracket.specs.Bracket.{bracket_of}
use Rattle.wald_test.specs.Side.{Side, number_of}
use Rattle.wald_test.specs.Sums.{low_end, high_end, lower_sum, upper_sum}
use Rattle.wald_test.proofs.FactorLemmas.{low_end-some, high_end-some}
use Rattle.wald_test.proofs.PowerLemmas.{power_low, power_high, product_low, product_high}

-- the factors of a side have brackets, but for those that are 0, and the last is not 0
pub record IsSide (s : Side) : Type 0 where
  pub success_small : s.success < 2 ^ 62
  pub failure_small : s.failure < 2 ^ 62
  pub once_small : s.once < 2 ^ 62
  pub once_some : 0 < s.once

-- ---- one factor

pub factor_low : (x : ℕ) → x < 2 ^ 62 → 0 < x → 2 ^ low_end x ≤ x ^ (2 ^ 48)
factor_low x small some =
    subst (λ (e : ℕ). 2 ^ e ≤ x ^ (2 ^ 48)) (sym (low_end-some x some)) (bracket_low x some small)

pub factor_high : (x : ℕ) → x < 2 ^ 62 → 0 < x → x ^ (2 ^ 48) ≤ 2 ^ high_end x
factor_high x small some =
    subst (λ (e : ℕ). x ^ (2 ^ 48) ≤ 2 ^ e) (sym (high_end-some x some)) (bracket_high x some small)

pub factor_width : (x : ℕ) → x < 2 ^ 62 → 0 < x → high_end x ≤ low_end x + 2
factor_width x small some =
    let width : (bracket_of x).1 ≤ (bracket_of x).0 + 2 = bracket_width x some small in
    let low : low_end x ≡ (bracket_of x).0 = low_end-some x some in
    let high : high_end x ≡ (bracket_of x).1 = high_end-some x some in
    omega arith

-- as often as it stands
power_width : (x k : ℕ) → x < 2 ^ 62 → (0 < k → 0 < x) → k * high_end x ≤ k * low_end x + 2 * k
power_width x zero small known = omega arith
power_width x (suc k) small known =
    let width : high_end x ≤ low_end x + 2 = factor_width x small (known (omega arith)) in
    let scaled : suc k * high_end x ≤ suc k * (low_end x + 2) = mul-le-mul_left (suc k) width in
    omega arith

-- ---- the parts of a number that is not 0

left_some : (a b : ℕ) → 0 < a * b → 0 < a
left_some a b some = pos_of_ne-zero (λ (none : a ≡ 0). let product : a * b ≡ 0 = ap (λ (p : ℕ). p * b) none ∙ zero-mul b in omega arith)

right_some : (a b : ℕ) → 0 < a * b → 0 < b
right_some a b some = pos_of_ne-zero (λ (none : b ≡ 0). let product : a * b ≡ 0 = ap (λ (p : ℕ). a * p) none ∙ mul-zero a in omega arith)

-- a base of a power that is not 0 is not 0, if it stands there
pub base_some : (x k : ℕ) → 0 < x ^ k → 0 < k → 0 < x
base_some x zero some stands = absurd (omega arith)
base_some x (suc k) some stands =
    let parted : x ^ suc k ≡ x ^ k * x = pow-suc x k in
    right_some (x ^ k) x (omega arith)

pub success_some : (s : Side) (d f : ℕ) → 0 < number_of s d f → 0 < d → 0 < s.success
unfolding number_of
success_some s d f some =
    base_some s.success d (left_some (s.success ^ d) (s.failure ^ f) (left_some (s.success ^ d * s.failure ^ f) s.once some))

pub failure_some : (s : Side) (d f : ℕ) → 0 < number_of s d f → 0 < f → 0 < s.failure
unfolding number_of
failure_some s d f some =
    base_some s.failure f (right_some (s.success ^ d) (s.failure ^ f) (left_some (s.success ^ d * s.failure ^ f) s.once some))

-- ---- the sums of a side

pub side_low : (s : Side) (d f : ℕ) → IsSide s → 0 < number_of s d f → 2 ^ lower_sum s d f ≤ number_of s d f ^ (2 ^ 48)
unfolding lower_sum number_of
side_low s d f is some =
    product_low (2 ^ 48) (s.success ^ d) (s.failure ^ f) s.once (d * low_end s.success) (f * low_end s.failure) (low_end s.once)
    (power_low (2 ^ 48) s.success d (low_end s.success) (λ stands. factor_low s.success is.success_small (success_some s d f some stands)))
    (power_low (2 ^ 48) s.failure f (low_end s.failure) (λ stands. factor_low s.failure is.failure_small (failure_some s d f some stands)))
    (factor_low s.once is.once_small is.once_some)

pub side_high : (s : Side) (d f : ℕ) → IsSide s → 0 < number_of s d f → number_of s d f ^ (2 ^ 48) ≤ 2 ^ upper_sum s d f
unfolding upper_sum number_of
side_high s d f is some =
    product_high (2 ^ 48) (s.success ^ d) (s.failure ^ f) s.once (d * high_end s.success) (f * high_end s.failure) (high_end s.once)
    (power_high (2 ^ 48) s.success d (high_end s.success) (λ stands. factor_high s.success is.success_small (success_some s d f some stands)))
    (power_high (2 ^ 48) s.failure f (high_end s.failure) (λ stands. factor_high s.failure is.failure_small (failure_some s d f some stands)))
    (factor_high s.once is.once_small is.once_some)

pub side_width : (s : Side) (d f : ℕ) → IsSide s → 0 < number_of s d f → upper_sum s d f ≤ lower_sum s d f + 2 * (d + f + 1)
unfolding lower_sum upper_sum
side_width s d f is some =
    let first : d * high_end s.success ≤ d * low_end s.success + 2 * d = power_width s.success d is.success_small (success_some s d f some) in
    let second : f * high_end s.failure ≤ f * low_end s.failure + 2 * f = power_width s.failure f is.failure_small (failure_some s d f some) in
    let third : high_end s.once ≤ low_end s.once + 2 = factor_width s.once is.once_small is.once_some in
    omega arith
