-- Common denominators.
use Rattle.std.proofs.Common.{◌≡◌, ℕ, ◌*◌, ◌/◌, ◌<◌, ℤ, pos, ◌*ℤ◌, sym, ◌∙◌, ap, ap₂, subst, mul_assoc, mul_comm, mul-one}
use Rattle.std.specs.Int.{IsGcd, ◌∣◌}
use Rattle.std.proofs.lemmas.Nat.Gcd.{dvd_refl}
use native.Mathlib.Nat.{div-mul_cancel, mul-div_cancel, mul-div_cancel_left, div_self}
use lib.IntN.{*ℤ-one, one}
use Rattle.smc_num.specs.Gcd.{gcd_of, lcm_of}
use Rattle.smc_num.specs.Fraction.{Fraction}
use Rattle.smc_num.specs.Arithmetic.{common_of, within_all}
use Rattle.smc_num.proofs.GcdLemmas.{gcd_of-is}

-- g is what the denominators share
pub common_by : (a b : Fraction) (g den : ℕ) (left right : ℤ) → 0 < a.den → 0 < b.den → IsGcd a.den b.den g → left ≡ a.num *ℤ pos (b.den / g) → right ≡ b.num *ℤ pos (a.den / g) → den ≡ a.den * (b.den / g)
    → common_of a b ≡ within_all left right den
unfolding common_of lcm_of
common_by a b g den left right a_some b_some is left_is right_is den_is =
    let same = gcd_of-is a.den b.den g is in
    let whole : a.den * (b.den / gcd_of a.den b.den) ≡ den = ap (λ z. a.den * (b.den / z)) (sym same) ∙ sym den_is in
    let first : den / a.den ≡ b.den / g = ap (λ z. z / a.den) den_is ∙ mul-div_cancel_left (b.den / g) a_some in
    let regroup : den ≡ (a.den / g) * b.den =
    den_is ∙ ap (λ z. z * (b.den / g)) (sym (div-mul_cancel g is.0)) ∙ mul_assoc (a.den / g) g (b.den / g)
    ∙ ap (λ z. (a.den / g) * z) (mul_comm g (b.den / g) ∙ div-mul_cancel g is.1) in
    let second : den / b.den ≡ a.den / g = ap (λ z. z / b.den) regroup ∙ mul-div_cancel (a.den / g) b_some in
    ap (λ z. within_all (a.num *ℤ pos (z / a.den)) (b.num *ℤ pos (z / b.den)) z) whole
    ∙ ap₂ (λ x y. within_all (a.num *ℤ pos x) (b.num *ℤ pos y) den) first second
    ∙ ap₂ (λ x y. within_all x y den) (sym left_is) (sym right_is)

times_one : (n : ℤ) → n *ℤ pos 1 ≡ n
unfolding one
times_one n = *ℤ-one n

-- fractions of one denominator have it in common
pub common_same : (a b : Fraction) → 0 < a.den → a.den ≡ b.den → common_of a b ≡ within_all a.num b.num a.den
common_same a b some same =
    let self : IsGcd a.den b.den a.den = (dvd_refl a.den, subst (λ z. a.den ∣ z) same (dvd_refl a.den), λ d p q. p) in
    let b_one : b.den / a.den ≡ 1 = ap (λ z. z / a.den) (sym same) ∙ div_self some in
    common_by a b a.den a.den a.num b.num some (subst (λ z. 0 < z) same some) self
    (sym (ap (λ z. a.num *ℤ pos z) b_one ∙ times_one a.num)) (sym (ap (λ z. b.num *ℤ pos z) (div_self some) ∙ times_one b.num))
    (sym (ap (λ z. a.den * z) b_one ∙ mul-one a.den))
