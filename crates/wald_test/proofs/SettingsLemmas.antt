-- The settings: what is known of them where they are not refused.
use Rattle.std.proofs.Common.{◌≡◌, ℕ, zero, suc, ◌+◌, ◌-◌, ◌*◌, ◌^◌, ◌<◌, ◌≤◌, ◌⊎◌, ⊎_elim, min, ℤ, pos, negsuc, ◌+ℤ◌, ◌*ℤ◌, ◌<ℤ◌, ◌≤ℤ◌, unsigned_abs, true, false, ◌||◌, refl, sym, ap, subst, arith, mul_comm}
use Rattle.std.specs.Prelude.{int_lt, int_le}
use Rattle.std.specs.Int.{◌∣◌}
use Rattle.std.proofs.Math.Nat.{mul-pos, mul-le-mul, mul-le-mul_right, dvd-add, dvd-sub, dvd-mul_left, dvd-mul_right, min-eq_left, min-eq_right}
use Rattle.std.proofs.lemmas.Bool.{or_parts, ltb-false, leb-false}
use Rattle.std.proofs.lemmas.Bool.Decides.{nat_tests}
use Rattle.std.proofs.lemmas.Int.{ints}
use Rattle.wald_test.specs.declared.terms.Terms.{Terms}
use Rattle.wald_test.specs.Settings.{least_terms}
use Rattle.wald_test.proofs.TermsLemmas.{IsScaled, shared_of, least_scaled, scaled_le, scaled_lt, scaled_some, parts_small}

-- ---- what the tests on one fraction say

-- the least whole number that is not below a fraction is 0 or below exactly where the fraction is
pub ceil_sign : (r n : ℤ) (d : ℕ) → n ≤ℤ (r *ℤ pos d) → (r *ℤ pos d) <ℤ (n +ℤ pos d) → int_le r (pos 0) ≡ int_le n (pos 0)
ceil_sign (pos zero) (pos m) d at_least before =
    let none : m ≡ 0 = omega (arith, ints, at_least) in grind (arith, nat_tests)
ceil_sign (pos zero) (negsuc m) d at_least before = refl
ceil_sign (pos (suc k)) (pos m) d at_least before =
    let some : 0 < m = omega (arith, ints, before) in grind (arith, nat_tests)
ceil_sign (pos (suc k)) (negsuc m) d at_least before = absurd (omega (arith, ints, before))
ceil_sign (negsuc k) (pos m) d at_least before =
    let none : m ≡ 0 = omega (arith, ints, at_least) in grind (arith, nat_tests)
ceil_sign (negsuc k) (negsuc m) d at_least before = refl

-- a probability is at most 1
pub theta_most : (n : ℤ) (d : ℕ) → (int_lt n (pos 0) || int_lt (pos d) n) ≡ false → unsigned_abs n ≤ d
theta_most (pos k) d is = ltb-false d k (or_parts (int_lt (pos k) (pos 0)) (int_lt (pos d) (pos k)) is).1
theta_most (negsuc k) d is = let never : true ≡ false = is in cc

-- a width is above 0
pub delta_some : (n : ℤ) → int_le n (pos 0) ≡ false → 0 < unsigned_abs n
delta_some (pos k) is = leb-false k 0 is
delta_some (negsuc k) is = let never : true ≡ false = is in cc

-- an error is between 0 and 1
pub record IsBetween (n d : ℕ) : Type 0 where
  pub some : 0 < n
  pub less : n < d

pub error_between : (n : ℤ) (d : ℕ) → (int_le n (pos 0) || int_le (pos d) n) ≡ false → IsBetween (unsigned_abs n) d
error_between (pos k) d is =
    let parts = or_parts (int_le (pos k) (pos 0)) (int_le (pos d) (pos k)) is in
    record { some = leb-false k 0 parts.0; less = leb-false d k parts.1 }
error_between (negsuc k) d is = let never : true ≡ false = is in cc

-- ---- the two probabilities

-- theta is t/s and delta is w/x, both with denominators up to 2^31
pub record AreWidths (t s w x : ℕ) : Type 0 where
  pub theta_most : t ≤ s
  pub theta_some : 0 < s
  pub theta_small : s ≤ 2 ^ 31
  pub delta_some : 0 < w
  pub parts_some : 0 < x
  pub parts_small : x ≤ 2 ^ 31

-- a sum that fits 64 bits
pub middle_small : (t s w x : ℕ) → AreWidths t s w x → t * x + min w x * s < 2 ^ 64
middle_small t s w x are =
    let first : t * x ≤ s * x = mul-le-mul_right x are.theta_most in
    let cut : min w x ≤ x = omega arith in
    let second : min w x * s ≤ x * s = mul-le-mul_right s cut in
    let product : s * x ≤ 2 ^ 31 * 2 ^ 31 = mul-le-mul are.theta_small are.parts_small in
    let turned : x * s ≡ s * x = mul_comm x s in
    omega arith

-- a width above 1 may be cut to 1: the upper probability
pub upper_cut : (t s w x : ℕ) → min (t * x + min w x * s) (s * x) ≡ min (t * x + w * s) (s * x)
upper_cut t s w x =
    ⊎_elim
    (λ (least : w ≤ x). ap (λ (m : ℕ). min (t * x + m * s) (s * x)) (min-eq_left least))
    (λ (most : x ≤ w).
    let cut : min w x ≡ x = min-eq_right most in
    let along : min w x * s ≡ x * s = ap (λ (m : ℕ). m * s) cut in
    let wide : x * s ≤ w * s = mul-le-mul_right s most in
    let turned : x * s ≡ s * x = mul_comm x s in
    omega arith)
    (either w x)
  where
    either : (w x : ℕ) → (w ≤ x) ⊎ (x ≤ w)
    either w x = grind arith

-- the lower probability
pub lower_cut : (t s w x : ℕ) → t ≤ s → t * x - min w x * s ≡ t * x - w * s
lower_cut t s w x at_most =
    ⊎_elim
    (λ (least : w ≤ x). ap (λ (m : ℕ). t * x - m * s) (min-eq_left least))
    (λ (most : x ≤ w).
    let cut : min w x ≡ x = min-eq_right most in
    let along : min w x * s ≡ x * s = ap (λ (m : ℕ). m * s) cut in
    let wide : x * s ≤ w * s = mul-le-mul_right s most in
    let turned : x * s ≡ s * x = mul_comm x s in
    let within : t * x ≤ s * x = mul-le-mul_right x at_most in
    omega arith)
    (either w x)
  where
    either : (w x : ℕ) → (w ≤ x) ⊎ (x ≤ w)
    either w x = grind arith

-- a divisor of both divides the lesser
dvd-min : (d a b : ℕ) → d ∣ a → d ∣ b → d ∣ min a b
dvd-min d a b first second =
    ⊎_elim
    (λ (least : a ≤ b). subst (λ (m : ℕ). d ∣ m) (sym (min-eq_left least)) first)
    (λ (most : b ≤ a). subst (λ (m : ℕ). d ∣ m) (sym (min-eq_right most)) second)
    (either a b)
  where
    either : (a b : ℕ) → (a ≤ b) ⊎ (b ≤ a)
    either a b = grind arith

-- the terms of the two probabilities
abbrev pub probability_terms : ℕ → ℕ → ℕ → ℕ → Terms
probability_terms t s w x = least_terms (min (t * x + min w x * s) (s * x)) (t * x - min w x * s) (s * x)

pub record AreProbabilities (p : Terms) : Type 0 where
  pub apart : p.second < p.first
  pub most : p.first ≤ p.parts
  pub small : p.parts < 2 ^ 62

pub probabilities_known : (t s w x : ℕ) → AreWidths t s w x → AreProbabilities (probability_terms t s w x)
probabilities_known t s w x are =
    let middle : ℕ = t * x in
    let width : ℕ = min w x * s in
    let parts : ℕ = s * x in
    let first : ℕ = min (middle + width) parts in
    let second : ℕ = middle - width in
    let shared : ℕ = shared_of first second parts in
    let product_some : 0 < parts = mul-pos are.theta_some are.parts_some in
    let cut_some : 0 < min w x = least_some w x are.delta_some are.parts_some in
    let width_some : 0 < width = mul-pos cut_some are.theta_some in
    let within : middle ≤ parts = mul-le-mul_right x are.theta_most in
    let is : IsScaled first second parts (least_terms first second parts) shared = least_scaled first second parts product_some in
    record {
      apart = scaled_lt (least_terms first second parts).second (least_terms first second parts).first second first shared is.second is.first
          (lower_apart middle width parts width_some product_some within);
      most = scaled_le (least_terms first second parts).first (least_terms first second parts).parts first parts shared is.some is.first is.parts
          (least_most (middle + width) parts);
      small = parts_small first second s x are.theta_some are.parts_some are.theta_small are.parts_small
          (λ same. dvd-min s (middle + width) parts (dvd-add s (divides_middle t s x same) (dvd-mul_left s (min w x))) (dvd-mul_right s x))
          (λ same. dvd-sub s (divides_middle t s x same) (dvd-mul_left s (min w x)));
    }
  where
    least_some : (w x : ℕ) → 0 < w → 0 < x → 0 < min w x
    least_some w x first second = omega arith

    least_most : (a b : ℕ) → min a b ≤ b
    least_most a b = omega arith

    lower_apart : (middle width parts : ℕ) → 0 < width → 0 < parts → middle ≤ parts → middle - width < min (middle + width) parts
    lower_apart middle width parts first second third = omega arith

    divides_middle : (t s x : ℕ) → s ≡ x → s ∣ t * x
    divides_middle t s x same = subst (λ (y : ℕ). s ∣ t * y) same (dvd-mul_left s t)

-- ---- the two errors

pub record AreErrors (e : Terms) : Type 0 where
  pub alpha_some : 0 < e.first
  pub beta_some : 0 < e.second
  pub sum : e.first + e.second < e.parts
  pub small : e.parts < 2 ^ 62

pub errors_known :
    (a s b x : ℕ) → IsBetween a s → IsBetween b x → s ≤ 2 ^ 31 → x ≤ 2 ^ 31 → a * x + b * s < s * x →
    AreErrors (least_terms (a * x) (b * s) (s * x))
errors_known a s b x alpha beta s_small x_small sum =
    let s_some : 0 < s = omega (arith, alpha.some, alpha.less) in
    let x_some : 0 < x = omega (arith, beta.some, beta.less) in
    let parts : ℕ = s * x in
    let shared : ℕ = shared_of (a * x) (b * s) parts in
    let product_some : 0 < parts = mul-pos s_some x_some in
    let t : Terms = least_terms (a * x) (b * s) parts in
    let is : IsScaled (a * x) (b * s) parts t shared = least_scaled (a * x) (b * s) parts product_some in
    record {
      alpha_some = scaled_some t.first (a * x) shared is.first (mul-pos alpha.some x_some);
      beta_some = scaled_some t.second (b * s) shared is.second (mul-pos beta.some s_some);
      sum = scaled_lt (t.first + t.second) t.parts (a * x + b * s) parts shared
          (both t.first t.second (a * x) (b * s) shared is.first is.second) is.parts sum;
      small = parts_small (a * x) (b * s) s x s_some x_some s_small x_small
          (λ same. subst (λ (y : ℕ). s ∣ a * y) same (dvd-mul_left s a))
          (λ same. dvd-mul_left s b);
    }
  where
    both : (p q a b shared : ℕ) → p * shared ≡ a → q * shared ≡ b → (p + q) * shared ≡ a + b
    both p q a b shared first second = omega arith
