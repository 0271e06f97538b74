-- Products and quotients: what one numerator and the other denominator share is taken off first.
use Rattle.std.proofs.Common.{◌≡◌, ℕ, zero, suc, ◌*◌, ◌/◌, ◌<◌, Bool, ℤ, pos, negsuc, ◌*ℤ◌, int_lt, unsigned_abs, not, refl, sym, ◌∙◌, ap, ap₂, subst, subst₂, arith, mul-pos, le-ltb, suc-mul, add-suc, zero-lt-suc, Result, Err, IsErrOf, IsOkUnless, ◌↔◌}
use Rattle.std.specs.Int.{IsGcd, ◌∣◌}
use Rattle.std.proofs.lemmas.Int.{ints, unsigned_abs-mul}
use lib.IntN.{*ℤ_comm, *ℤ-zero}
use mathlib.Core.Bool.{beq}
use native.Mathlib.Nat.{div-mul_cancel, dvd-mul_right}
use Rattle.smc_num.specs.declared.fault.NumFault.{NumFault}
use Rattle.smc_num.specs.declared.fault.NumFault.TheVariants.{ZeroDivisor, OutOfLimit}
use Rattle.smc_num.specs.Gcd.{IsCoprime}
use Rattle.smc_num.specs.Fraction.{Fraction, signed, within, lowest}
use Rattle.smc_num.specs.Arithmetic.{product_of, quotient_of}
use Rattle.smc_num.proofs.GcdLemmas.{gcd_some, coprime_quotients, coprime_parts, coprime-mul}
use Rattle.smc_num.proofs.LowestLemmas.{unsigned_abs-signed, lowest_is, factor_some, fraction_of-parts, fraction_of-zero, lowest-refusal}

-- what a product of sizes comes to
pub record IsProduct (negative : Bool) (a_size a_den b_size b_den x y : ℕ) : Type 0 where
  pub coprime : IsCoprime x y
  pub some : 0 < y
  pub value : lowest (signed negative (a_size * b_size)) (a_den * b_den) ≡ within (signed negative x) y

product_value : (x y u v left right : ℕ) → ((x * left) * (y * right)) * (u * v) ≡ (x * y) * ((u * right) * (v * left))
product_value x y u v left right = omega arith

-- left is what a_size and b_den share, right what b_size and a_den share
pub product_by : (negative : Bool) (a_size a_den b_size b_den left right x y : ℕ) → IsCoprime a_size a_den → IsCoprime b_size b_den → 0 < a_den → 0 < b_den
    → IsGcd a_size b_den left → IsGcd b_size a_den right → x ≡ (a_size / left) * (b_size / right) → y ≡ (a_den / right) * (b_den / left)
    → IsProduct negative a_size a_den b_size b_den x y
product_by negative a_size a_den b_size b_den left right x y a_coprime b_coprime a_some b_some left_is right_is x_is y_is =
    let left_some = gcd_some a_size b_den left left_is (omega arith) in
    let right_some = gcd_some b_size a_den right right_is (omega arith) in
    let a_top = div-mul_cancel left left_is.0 in
    let b_bottom = div-mul_cancel left left_is.1 in
    let b_top = div-mul_cancel right right_is.0 in
    let a_bottom = div-mul_cancel right right_is.1 in
    let part = λ (m n k : ℕ) (e : m * n ≡ k). subst (λ z. m ∣ z) e (dvd-mul_right m n) in
    let coprime : IsCoprime x y = subst₂ IsCoprime (sym x_is) (sym y_is)
    (coprime-mul (a_size / left) (b_size / right) (a_den / right) (b_den / left)
    (coprime_parts a_size a_den _ _ a_coprime (part _ _ _ a_top) (part _ _ _ a_bottom))
    (coprime_quotients a_size b_den left _ _ left_some left_is a_top b_bottom)
    (coprime_quotients b_size a_den right _ _ right_some right_is b_top a_bottom)
    (coprime_parts b_size b_den _ _ b_coprime (part _ _ _ b_top) (part _ _ _ b_bottom))) in
    let same = unsigned_abs-signed negative (a_size * b_size) in
    let value : unsigned_abs (signed negative (a_size * b_size)) * y ≡ x * (a_den * b_den) =
    ap₂ ◌*◌ (same ∙ ap₂ ◌*◌ (sym a_top) (sym b_top)) y_is ∙ product_value (a_size / left) (b_size / right) (a_den / right) (b_den / left) left right
    ∙ ap₂ ◌*◌ (sym x_is) (ap₂ ◌*◌ a_bottom b_bottom) in
    record {
      coprime = coprime;
      some = subst (λ z. 0 < z) (sym y_is) (mul-pos (factor_some (a_den / right) right a_den a_bottom a_some) (factor_some (b_den / left) left b_den b_bottom b_some));
      value = lowest_is _ _ negative x y (mul-pos a_some b_some) coprime (ap (signed negative) (sym same)) value;
    }

-- whole numbers are multiplied as they are
pub product-whole : (negative : Bool) (a_size a_den b_size b_den : ℕ) → a_den ≡ 1 → b_den ≡ 1 → IsCoprime (a_size * b_size) 1 → lowest (signed negative (a_size * b_size)) (a_den * b_den) ≡ within (signed negative (a_size * b_size)) 1
product-whole negative a_size a_den b_size b_den a_whole b_whole coprime =
    let same = unsigned_abs-signed negative (a_size * b_size) in
    subst₂ (λ d e. lowest (signed negative (a_size * b_size)) (d * e) ≡ within (signed negative (a_size * b_size)) 1) (sym a_whole) (sym b_whole)
    (lowest_is _ 1 negative (a_size * b_size) 1 (omega arith) coprime (ap (signed negative) (sym same)) (ap (λ z. z * 1) same))

-- ---- signs

product_signs : (m n : ℤ) → signed (not (beq (int_lt m (pos 0)) (int_lt n (pos 0)))) (unsigned_abs m * unsigned_abs n) ≡ m *ℤ n
product_signs (pos m) (pos n) = rw (le-ltb m 0 (omega arith), le-ltb n 0 (omega arith))
product_signs (pos m) (negsuc n) = rw (le-ltb m 0 (omega arith))
product_signs (negsuc m) (pos n) = rw (le-ltb n 0 (omega arith))
product_signs (negsuc m) (negsuc n) = refl

-- the product of two fractions by their signs and sizes
pub product_of-signs : (a b : Fraction) (a_size b_size : ℕ) (r : Result Fraction NumFault) → a_size ≡ unsigned_abs a.num → b_size ≡ unsigned_abs b.num
    → r ≡ lowest (signed (not (beq (int_lt a.num (pos 0)) (int_lt b.num (pos 0)))) (a_size * b_size)) (a.den * b.den) → r ≡ product_of a b
unfolding product_of
product_of-signs a b a_size b_size r a_is b_is is =
    is ∙ ap₂ (λ x y. lowest (signed (not (beq (int_lt a.num (pos 0)) (int_lt b.num (pos 0)))) (x * y)) (a.den * b.den)) a_is b_is
    ∙ ap (λ z. lowest z (a.den * b.den)) (product_signs a.num b.num)

-- a positive factor keeps the sign
sign_right : (n : ℤ) (d : ℕ) → 0 < d → int_lt (n *ℤ pos d) (pos 0) ≡ int_lt n (pos 0)
sign_right (pos n) d some = le-ltb (n * d) 0 (omega arith) ∙ sym (le-ltb n 0 (omega arith))
sign_right (negsuc n) zero some = elim some [ ]
sign_right (negsuc n) (suc d) some = rw (suc-mul, add-suc)

sign_left : (n : ℤ) (d : ℕ) → 0 < d → int_lt (pos d *ℤ n) (pos 0) ≡ int_lt n (pos 0)
sign_left n d some = ap (λ z. int_lt z (pos 0)) (*ℤ_comm (pos d) n) ∙ sign_right n d some

-- a product of a number above 0 is 0 only where the other factor is
factor_zero : (d : ℕ) (n : ℤ) → 0 < d → pos d *ℤ n ≡ pos 0 → n ≡ pos 0
factor_zero d (pos zero) some e = refl
factor_zero d (pos (suc n)) some e = absurd (omega (arith, ints, mul-pos some (zero-lt-suc n), e))
factor_zero d (negsuc n) some e = absurd (omega (arith, ints, mul-pos some (zero-lt-suc n), e))

pub quotient_by_zero : (a b : Fraction) → b.num ≡ pos 0 → quotient_of a b ≡ Err ZeroDivisor
unfolding quotient_of
quotient_by_zero a b none =
    (fraction_of-zero (a.num *ℤ pos b.den) (pos a.den *ℤ b.num)).1 (ap (λ z. pos a.den *ℤ z) none ∙ *ℤ-zero (pos a.den))

pub quotient_of-zero : (a b : Fraction) → 0 < a.den → IsErrOf (quotient_of a b) ZeroDivisor ↔ (b.num ≡ pos 0)
unfolding quotient_of
quotient_of-zero a b some =
    let whole = fraction_of-zero (a.num *ℤ pos b.den) (pos a.den *ℤ b.num) in
    (λ e. factor_zero a.den b.num some (whole.0 e), λ zero. whole.1 (ap (λ z. pos a.den *ℤ z) zero ∙ *ℤ-zero (pos a.den)))

-- the quotient of two fractions by their signs and sizes
pub quotient_of-signs : (a b : Fraction) (a_size b_size : ℕ) (r : Result Fraction NumFault) → 0 < a.den → 0 < b.den → (b.num ≡ pos 0 → ⊥) → a_size ≡ unsigned_abs a.num → b_size ≡ unsigned_abs b.num
    → r ≡ lowest (signed (not (beq (int_lt a.num (pos 0)) (int_lt b.num (pos 0)))) (a_size * b.den)) (a.den * b_size) → r ≡ quotient_of a b
unfolding quotient_of
quotient_of-signs a b a_size b_size r a_some b_some some a_is b_is is =
    fraction_of-parts (a.num *ℤ pos b.den) (pos a.den *ℤ b.num) (a_size * b.den) (a.den * b_size) r
    (ap (λ z. z * b.den) a_is ∙ sym (unsigned_abs-mul a.num (pos b.den)))
    (ap (λ z. a.den * z) b_is ∙ sym (unsigned_abs-mul (pos a.den) b.num))
    (λ zero. some (factor_zero a.den b.num a_some zero))
    (is ∙ ap₂ (λ s t. lowest (signed (not (beq s t)) (a_size * b.den)) (a.den * b_size)) (sym (sign_right a.num b.den b_some)) (sym (sign_left b.num a.den a_some)))

pub product_of-refusal : (a b : Fraction) → IsOkUnless (product_of a b) OutOfLimit
unfolding product_of
product_of-refusal a b = lowest-refusal (a.num *ℤ b.num) (a.den * b.den)
