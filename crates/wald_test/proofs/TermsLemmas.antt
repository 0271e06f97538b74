-- Two fractions over their least common denominator.
use Rattle.std.proofs.Common.{◌≡◌, ℕ, zero, suc, ◌-◌, ◌*◌, ◌^◌, ◌<◌, ◌≤◌, ◌⊎◌, inl, inr, sym, ap, ◌∙◌, arith}
use Rattle.std.specs.Int.{◌∣◌}
use Rattle.std.proofs.Math.Nat.{mul-pos, mul-le-mul, mul-le-mul_left, le_of_mul-le-mul_right, lt_of_mul-lt-mul_right, le_of_dvd, dvd_trans, dvd-mul_right}
use native.Mathlib.Nat.{div-mul_cancel}
use Rattle.smc_num.specs.Gcd.{gcd_of}
use Rattle.smc_num.proofs.GcdLemmas.{gcd_some, gcd_of-IsGcd}
use Rattle.wald_test.specs.declared.terms.Terms.{Terms}
use Rattle.wald_test.specs.Settings.{least_terms}

-- the numbers are those of the terms, each times what they share
pub record IsScaled (a b n : ℕ) (t : Terms) (shared : ℕ) : Type 0 where
  pub some : 0 < shared
  pub first : t.first * shared ≡ a
  pub second : t.second * shared ≡ b
  pub parts : t.parts * shared ≡ n

-- what two numbers and a denominator share
abbrev pub shared_of : ℕ → ℕ → ℕ → ℕ
shared_of a b n = gcd_of (gcd_of a b) n

pub shared_some : (a b n : ℕ) → 0 < n → 0 < shared_of a b n
shared_some a b n some = gcd_some (gcd_of a b) n (shared_of a b n) (gcd_of-IsGcd (gcd_of a b) n) (omega arith)

pub least_scaled : (a b n : ℕ) → 0 < n → IsScaled a b n (least_terms a b n) (shared_of a b n)
unfolding least_terms
least_scaled a b n some =
    let inner = gcd_of-IsGcd a b in
    let outer = gcd_of-IsGcd (gcd_of a b) n in
    record {
      some = shared_some a b n some;
      first = div-mul_cancel (shared_of a b n) (dvd_trans _ outer.0 inner.0);
      second = div-mul_cancel (shared_of a b n) (dvd_trans _ outer.0 inner.1);
      parts = div-mul_cancel (shared_of a b n) outer.1;
    }

-- each number that divides all three divides what they share
pub divides_shared : (a b n d : ℕ) → d ∣ a → d ∣ b → d ∣ n → d ∣ shared_of a b n
divides_shared a b n d first second parts = (gcd_of-IsGcd (gcd_of a b) n).2 d ((gcd_of-IsGcd a b).2 d first second) parts

-- ---- orders are kept

pub scaled_le : (x y a b shared : ℕ) → 0 < shared → x * shared ≡ a → y * shared ≡ b → a ≤ b → x ≤ y
scaled_le x y a b shared some first second h =
    let products : x * shared ≤ y * shared = omega arith in
    le_of_mul-le-mul_right products some

pub scaled_lt : (x y a b shared : ℕ) → x * shared ≡ a → y * shared ≡ b → a < b → x < y
scaled_lt x y a b shared first second h =
    let products : x * shared < y * shared = omega arith in
    lt_of_mul-lt-mul_right shared products

pub scaled_some : (x a shared : ℕ) → x * shared ≡ a → 0 < a → 0 < x
scaled_some zero a shared is some = absurd (omega arith)
scaled_some (suc x) a shared is some = omega arith

-- ---- the denominator stays small

-- two different denominators up to 2^31 have a product below 2^62
different : (s x : ℕ) → s < x → x ≤ 2 ^ 31 → s * x < 2 ^ 62
different s x less most =
    let under : s ≤ 2 ^ 31 - 1 = omega arith in
    let product : s * x ≤ (2 ^ 31 - 1) * 2 ^ 31 = mul-le-mul under most in
    omega arith

-- a denominator that divides both numerators over its square is left at most once
same_parts : (s shared parts : ℕ) → 0 < s → s ≤ shared → parts * shared ≡ s * s → parts ≤ s
same_parts s shared parts some least is =
    let products : parts * s ≤ parts * shared = mul-le-mul_left parts least in
    let squares : parts * s ≤ s * s = omega arith in
    le_of_mul-le-mul_right squares some

-- over the product of two denominators up to 2^31 the least common denominator is below 2^62
pub parts_small :
    (a b s x : ℕ) → 0 < s → 0 < x → s ≤ 2 ^ 31 → x ≤ 2 ^ 31 → (s ≡ x → s ∣ a) → (s ≡ x → s ∣ b) →
    (least_terms a b (s * x)).parts < 2 ^ 62
parts_small a b s x s_some x_some s_most x_most first second =
    let product_some : 0 < s * x = mul-pos s_some x_some in
    let is : IsScaled a b (s * x) (least_terms a b (s * x)) (shared_of a b (s * x)) = least_scaled a b (s * x) product_some in
    let parts : ℕ = (least_terms a b (s * x)).parts in
    let within : parts * 1 ≤ parts * shared_of a b (s * x) = mul-le-mul_left parts is.some in
    by_order (tri s x)
    (λ less. let small : s * x < 2 ^ 62 = different s x less x_most in let whole : parts * shared_of a b (s * x) ≡ s * x = is.parts in omega arith)
    (λ more. let small : x * s < 2 ^ 62 = different x s more s_most in let whole : parts * shared_of a b (s * x) ≡ s * x = is.parts in omega arith)
    (λ same.
    let divides : s ∣ shared_of a b (s * x) = divides_shared a b (s * x) s (first same) (second same) (dvd-mul_right s x) in
    let least : s ≤ shared_of a b (s * x) = le_of_dvd is.some divides in
    let square : s * x ≡ s * s = ap (λ (p : ℕ). s * p) (sym same) in
    let once : parts ≤ s = same_parts s (shared_of a b (s * x)) parts s_some least (is.parts ∙ square) in
    omega arith)
  where
    tri : (s x : ℕ) → (s < x) ⊎ ((x < s) ⊎ (s ≡ x))
    tri s x = grind arith

    by_order : {A B C P : Type 0} → A ⊎ (B ⊎ C) → (A → P) → (B → P) → (C → P) → P
    by_order (inl a) f g h = f a
    by_order (inr (inl b)) f g h = g b
    by_order (inr (inr c)) f g h = h c
