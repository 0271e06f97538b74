-- Lowest terms: how `lowest` goes with signs and sizes, and what it says of values.
use Rattle.std.proofs.Common.{◌≡◌, ℕ, zero, suc, ◌+◌, ◌*◌, ◌/◌, ◌<◌, ◌≤◌, Bool, true, false, ℤ, pos, negsuc, neg_ℤ, ◌*ℤ◌, int_div, int_lt, unsigned_abs, refl, sym, ◌∙◌, ap, ap₂, subst, arith, mul_assoc, mul_comm, mul_right_comm, ◌⊎◌, inl, inr, ⊎_elim, mul-pos, zero-lt-suc, Result, Ok, Err, IsOkUnless, IsErrOf, ◌↔◌, ◌&&◌, nat_lt, not, lt-ltb, le-ltb}
use Rattle.std.specs.Int.{IsGcd}
use Rattle.std.proofs.lemmas.Bool.{cond_both, cond-true, cond-false, and_left, and_right, and_from, cases_lt}
use native.Mathlib.Nat.{div-mul_cancel, eq_of_mul-eq-mul_right, zero-div, zero-mul}
use lib.IntN.{neg_ℤ-neg_ℤ, *ℤ-negsuc}
use Rattle.std.proofs.lemmas.Int.{ints, unsigned_abs-mul}
use borrow.Author.Differences.{up, down, same_in}
use mathlib.Core.Bool.{beq}
use Rattle.smc_num.specs.declared.fault.NumFault.{NumFault}
use Rattle.smc_num.specs.declared.fault.NumFault.TheVariants.{ZeroDivisor, OutsideDomain, OutOfLimit}
use Rattle.smc_num.specs.Gcd.{gcd_of, IsCoprime}
use Rattle.smc_num.specs.Fraction.{Fraction, IsFrac, signed, within, lowest, fraction_of, limit, HasValue}
use Rattle.smc_num.proofs.GcdLemmas.{gcd_of-IsGcd, gcd_some, coprime_quotients, same_lowest}

-- ---- signs and sizes

pub unsigned_abs-signed : (negative : Bool) (size : ℕ) → unsigned_abs (signed negative size) ≡ size
unsigned_abs-signed false size = refl
unsigned_abs-signed true zero = refl
unsigned_abs-signed true (suc size) = refl

-- a part of a number has its sign
pub int_div-signed : (negative : Bool) (size by : ℕ) → int_div (signed negative size) (pos by) ≡ signed negative (size / by)
int_div-signed false size by = refl
int_div-signed true zero by = rw zero-div
int_div-signed true (suc size) by = refl

-- a number is its size with its sign
pub signed_of : (n : ℤ) → n ≡ signed (int_lt n (pos 0)) (unsigned_abs n)
signed_of (pos n) = rw (le-ltb n 0 (omega arith))
signed_of (negsuc n) = refl

pub negated_product : (n : ℤ) (d : ℕ) → neg_ℤ n *ℤ pos d ≡ neg_ℤ (n *ℤ pos d)
negated_product (pos zero) d = rw zero-mul
negated_product (pos (suc n)) d = refl
negated_product (negsuc n) d = sym (neg_ℤ-neg_ℤ (pos (suc n * d)))

-- a number and its part over what it shares with a denominator
signed_value : (negative : Bool) (m d g x y : ℕ) → x * g ≡ m → y * g ≡ d → signed negative x *ℤ pos d ≡ signed negative m *ℤ pos y
signed_value negative m d g x y top bottom = by_sign negative
  where
    sizes : x * d ≡ m * y
    sizes = ap (λ z. x * z) (sym bottom ∙ mul_comm y g) ∙ sym (mul_assoc x g y) ∙ ap (λ z. z * y) top

    by_sign : (negative : Bool) → signed negative x *ℤ pos d ≡ signed negative m *ℤ pos y
    by_sign false = ap pos sizes
    by_sign true = negated_product (pos x) d ∙ ap (λ z. neg_ℤ (pos z)) sizes ∙ sym (negated_product (pos m) y)

-- ---- lowest terms

-- a factor of a number above 0
pub factor_some : (x y n : ℕ) → x * y ≡ n → 0 < n → 0 < x
factor_some zero y n is some = absurd (omega (arith, zero-mul y))
factor_some (suc x) y n is some = omega arith

regrouped : (k d den size x y g : ℕ) → x * g ≡ k → y * g ≡ d → k * den ≡ size * d → (x * den) * g ≡ (size * y) * g
regrouped k d den size x y g top bottom value =
    mul_right_comm x den g ∙ ap (λ z. z * den) top ∙ value ∙ ap (λ z. size * z) (sym bottom) ∙ sym (mul_assoc size y g)

-- n/d in lowest terms is a fraction in lowest terms of the same sign and value
pub lowest_is : (n : ℤ) (d : ℕ) (negative : Bool) (size den : ℕ) → 0 < d → IsCoprime size den → n ≡ signed negative (unsigned_abs n) → unsigned_abs n * den ≡ size * d → lowest n d ≡ within (signed negative size) den
unfolding lowest
lowest_is n d negative size den some coprime sign value =
    let shared = gcd_of (unsigned_abs n) d in
    let is = gcd_of-IsGcd (unsigned_abs n) d in
    let shared_some = gcd_some (unsigned_abs n) d shared is (omega arith) in
    let top = div-mul_cancel shared is.0 in
    let bottom = div-mul_cancel shared is.1 in
    let den_some = factor_some (d / shared) shared d bottom some in
    let ours = coprime_quotients (unsigned_abs n) d shared (unsigned_abs n / shared) (d / shared) shared_some is top bottom in
    let value_of : (unsigned_abs n / shared) * den ≡ size * (d / shared) = eq_of_mul-eq-mul_right shared shared_some _ _ (regrouped (unsigned_abs n) d den size (unsigned_abs n / shared) (d / shared) shared top bottom value) in
    let same = same_lowest (unsigned_abs n / shared) (d / shared) size den den_some ours coprime value_of in
    ap₂ within (ap (λ x. int_div x (pos shared)) sign ∙ int_div-signed negative (unsigned_abs n) shared ∙ ap (signed negative) same.0) same.1

-- parts that are in lowest terms and within the limits make a fraction
pub IsFrac-signed : (negative : Bool) (size den : ℕ) → IsCoprime size den → size < limit → den < limit → 0 < den → IsFrac (record { num = signed negative size; den = den })
IsFrac-signed negative size den coprime num_small den_small some =
    record {
      coprime = subst (λ x. IsCoprime x den) (sym (unsigned_abs-signed negative size)) coprime;
      num_small = subst (λ x. x < limit) (sym (unsigned_abs-signed negative size)) num_small;
      den_small = den_small;
      den_some = some;
    }

-- what one division by the greatest common divisor leaves
pub record IsReduced (negative : Bool) (size den x y : ℕ) : Type 0 where
  pub coprime : IsCoprime x y
  pub some : 0 < y
  pub value : lowest (signed negative size) den ≡ within (signed negative x) y

pub reduced_by : (negative : Bool) (size den g x y : ℕ) → 0 < den → IsGcd size den g → x ≡ size / g → y ≡ den / g → IsReduced negative size den x y
reduced_by negative size den g x y some is first second =
    let g_some = gcd_some size den g is (omega arith) in
    let top : x * g ≡ size = ap (λ z. z * g) first ∙ div-mul_cancel g is.0 in
    let bottom : y * g ≡ den = ap (λ z. z * g) second ∙ div-mul_cancel g is.1 in
    let coprime = coprime_quotients size den g x y g_some is top bottom in
    let same = unsigned_abs-signed negative size in
    let value : unsigned_abs (signed negative size) * y ≡ x * den =
    ap (λ z. z * y) (same ∙ sym top) ∙ mul_right_comm x g y ∙ mul_assoc x y g ∙ ap (λ z. x * z) bottom in
    record {
      coprime = coprime;
      some = factor_some y g den bottom some;
      value = lowest_is (signed negative size) den negative x y some coprime (ap (signed negative) (sym same)) value;
    }

-- a denominator of any sign: the two signs are joined
fraction_of-signs : (n d : ℤ) → (d ≡ pos 0 → ⊥) → lowest (signed (not (beq (int_lt n (pos 0)) (int_lt d (pos 0)))) (unsigned_abs n)) (unsigned_abs d) ≡ fraction_of n d
unfolding fraction_of
fraction_of-signs n (pos zero) some = absurd (some refl)
fraction_of-signs (pos n) (pos (suc d)) some = rw (le-ltb n 0 (omega arith), le-ltb (suc d) 0 (omega arith))
fraction_of-signs (negsuc n) (pos (suc d)) some = rw (le-ltb (suc d) 0 (omega arith))
fraction_of-signs (pos n) (negsuc d) some = rw (le-ltb n 0 (omega arith))
fraction_of-signs (negsuc n) (negsuc d) some = refl

pub fraction_of-parts : (n d : ℤ) (size den : ℕ) (r : Result Fraction NumFault) → size ≡ unsigned_abs n → den ≡ unsigned_abs d → (d ≡ pos 0 → ⊥) → r ≡ lowest (signed (not (beq (int_lt n (pos 0)) (int_lt d (pos 0)))) size) den → r ≡ fraction_of n d
fraction_of-parts n d size den r first second some is =
    is ∙ ap₂ (λ x y. lowest (signed (not (beq (int_lt n (pos 0)) (int_lt d (pos 0)))) x) y) first second ∙ fraction_of-signs n d some

within-refusal : (n : ℤ) (d : ℕ) → IsOkUnless (within n d) OutOfLimit
within-refusal n d = cond_both (nat_lt (unsigned_abs n) limit && nat_lt d limit) (Ok (record { num = n; den = d })) (Err OutOfLimit) (λ r. IsOkUnless r OutOfLimit) (λ _. tt) (λ _. refl)

not_zero : (r : Result Fraction NumFault) → IsOkUnless r OutOfLimit → r ≡ Err ZeroDivisor → ⊥
not_zero (Ok f) h e = cc
not_zero (Err fault) h e = cc

pub not_domain : (r : Result Fraction NumFault) → IsOkUnless r OutOfLimit → r ≡ Err OutsideDomain → ⊥
not_domain (Ok f) h e = cc
not_domain (Err fault) h e = cc

-- a fraction with a denominator is refused by the limits alone
pub lowest-refusal : (n : ℤ) (d : ℕ) → IsOkUnless (lowest n d) OutOfLimit
unfolding lowest
lowest-refusal n d = within-refusal (int_div n (pos (gcd_of (unsigned_abs n) d))) (d / gcd_of (unsigned_abs n) d)

pub fraction_of-zero : (n d : ℤ) → IsErrOf (fraction_of n d) ZeroDivisor ↔ (d ≡ pos 0)
unfolding fraction_of
fraction_of-zero n (pos zero) = (λ _. refl, λ _. refl)
fraction_of-zero n (pos (suc d)) = (λ e. absurd (not_zero _ (lowest-refusal n (suc d)) e), λ e. cc)
fraction_of-zero n (negsuc d) = (λ e. absurd (not_zero _ (lowest-refusal (neg_ℤ n) (suc d)) e), λ e. cc)

-- ---- values

-- a factor above 0 can be taken off both sides
cancelled : (x y : ℤ) (d : ℕ) → 0 < d → x *ℤ pos d ≡ y *ℤ pos d → x ≡ y
cancelled x y d some same =
    let scaled : (up x + down y) * d ≡ (up y + down x) * d = omega (arith, ints) in
    same_in x y (eq_of_mul-eq-mul_right d some (up x + down y) (up y + down x) scaled)

-- two fractions of one value are the same
pub same_fraction : (f g : Fraction) → IsFrac f → IsFrac g → f.num *ℤ pos g.den ≡ g.num *ℤ pos f.den → f ≡ g
same_fraction f g f_is g_is same =
    let sizes : unsigned_abs f.num * g.den ≡ unsigned_abs g.num * f.den =
    sym (unsigned_abs-mul f.num (pos g.den)) ∙ ap unsigned_abs same ∙ unsigned_abs-mul g.num (pos f.den) in
    let parts = same_lowest (unsigned_abs f.num) f.den (unsigned_abs g.num) g.den f_is.den_some f_is.coprime g_is.coprime sizes in
    let nums = cancelled f.num g.num f.den f_is.den_some (subst (λ d. f.num *ℤ pos d ≡ g.num *ℤ pos f.den) (sym parts.1) same) in
    λ i. record { num = nums i; den = parts.1 i }

-- what is outside the limits is refused
pub within-large : (n : ℤ) (d : ℕ) → (limit ≤ unsigned_abs n) ⊎ (limit ≤ d) → within n d ≡ Err OutOfLimit
within-large n d (inl large) = cond-false _ _ _ (and_left _ _ (le-ltb (unsigned_abs n) limit large))
within-large n d (inr large) = cond-false _ _ _ (and_right _ _ (le-ltb d limit large))

-- what is within them is not
pub within-small : (n : ℤ) (d : ℕ) → unsigned_abs n < limit → d < limit → within n d ≡ Ok (record { num = n; den = d })
within-small n d first second = cond-true _ _ _ (and_from _ _ (lt-ltb _ _ first) (lt-ltb _ _ second))

-- ---- the laws

-- two numbers of one value have one sign
sign_agrees : (n m : ℤ) (d e : ℕ) → 0 < d → 0 < e → m *ℤ pos d ≡ n *ℤ pos e → n ≡ signed (int_lt m (pos 0)) (unsigned_abs n)
sign_agrees (pos n) (pos m) d e d_some e_some same = rw (le-ltb m 0 (omega arith))
sign_agrees (pos n) (negsuc m) d e d_some e_some same = absurd (omega (arith, ints, same, mul-pos (zero-lt-suc m) d_some))
sign_agrees (negsuc n) (pos m) d e d_some e_some same = absurd (omega (arith, ints, same, mul-pos (zero-lt-suc n) e_some))
sign_agrees (negsuc n) (negsuc m) d e d_some e_some same = refl

within-IsFrac : (n : ℤ) (d : ℕ) (f : Fraction) → IsCoprime (unsigned_abs n) d → 0 < d → within n d ≡ Ok f → IsFrac f × (f ≡ record { num = n; den = d })
within-IsFrac n d f coprime some is =
    ⊎_elim
    (λ (num_small : unsigned_abs n < limit). ⊎_elim
    (λ (den_small : d < limit).
    let same : f ≡ record { num = n; den = d } = cc (within-small n d num_small den_small) in
    (subst IsFrac (sym same) (record { coprime = coprime; num_small = num_small; den_small = den_small; den_some = some }), same))
    (λ (large : limit ≤ d). cc (within-large n d (inr large))) (cases_lt d limit))
    (λ (large : limit ≤ unsigned_abs n). cc (within-large n d (inl large))) (cases_lt (unsigned_abs n) limit)

-- what `lowest` gives is in lowest terms and has the value
pub lowest-IsFrac : (n : ℤ) (d : ℕ) (f : Fraction) → 0 < d → lowest n d ≡ Ok f → IsFrac f × HasValue f n d
lowest-IsFrac n d f some is =
    let negative = int_lt n (pos 0) in
    let size = unsigned_abs n in
    let g_is = gcd_of-IsGcd size d in
    let g = gcd_of size d in
    let reduced = reduced_by negative size d g (size / g) (d / g) some g_is refl refl in
    let same = unsigned_abs-signed negative (size / g) in
    let parts = within-IsFrac (signed negative (size / g)) (d / g) f (subst (λ x. IsCoprime x (d / g)) (sym same) reduced.coprime) reduced.some
    (sym reduced.value ∙ ap (λ z. lowest z d) (sym (signed_of n)) ∙ is) in
    let g_some = gcd_some size d g g_is (omega arith) in
    let value : signed negative (size / g) *ℤ pos d ≡ n *ℤ pos (d / g) =
    signed_value negative size d g (size / g) (d / g) (div-mul_cancel g g_is.0) (div-mul_cancel g g_is.1) ∙ ap (λ z. z *ℤ pos (d / g)) (sym (signed_of n)) in
    (parts.0, subst (λ f. HasValue f n d) (sym parts.1) value)

-- and it gives each fraction in lowest terms that has the value
pub IsFrac-lowest : (n : ℤ) (d : ℕ) (f : Fraction) → 0 < d → IsFrac f → HasValue f n d → lowest n d ≡ Ok f
IsFrac-lowest n d f some is same =
    let negative = int_lt f.num (pos 0) in
    let sizes : unsigned_abs n * f.den ≡ unsigned_abs f.num * d =
    sym (unsigned_abs-mul n (pos f.den)) ∙ ap unsigned_abs (sym same) ∙ unsigned_abs-mul f.num (pos d) in
    lowest_is n d negative (unsigned_abs f.num) f.den some is.coprime (sign_agrees n f.num d f.den some is.den_some same) sizes
    ∙ ap (λ z. within z f.den) (sym (signed_of f.num)) ∙ within-small f.num f.den is.num_small is.den_small

-- the same for a denominator of any sign
pub fraction_of-value : (n d : ℤ) (f : Fraction) → (d ≡ pos 0 → ⊥) → (fraction_of n d ≡ Ok f) ↔ (IsFrac f × (f.num *ℤ d ≡ n *ℤ pos f.den))
unfolding fraction_of
fraction_of-value n (pos zero) f some = absurd (some refl)
fraction_of-value n (pos (suc d)) f some =
    (λ is. lowest-IsFrac n (suc d) f (omega arith) is, λ h. IsFrac-lowest n (suc d) f (omega arith) h.0 h.1)
fraction_of-value n (negsuc d) f some =
    let turned : f.num *ℤ negsuc d ≡ neg_ℤ (f.num *ℤ pos (suc d)) = *ℤ-negsuc f.num d in
    let back : neg_ℤ (neg_ℤ n *ℤ pos f.den) ≡ n *ℤ pos f.den = ap neg_ℤ (negated_product n f.den) ∙ neg_ℤ-neg_ℤ (n *ℤ pos f.den) in (
      λ is. let found = lowest-IsFrac (neg_ℤ n) (suc d) f (omega arith) is in (found.0, turned ∙ ap neg_ℤ found.1 ∙ back),
      λ h. IsFrac-lowest (neg_ℤ n) (suc d) f (omega arith) h.0
          (sym (neg_ℤ-neg_ℤ (f.num *ℤ pos (suc d))) ∙ ap neg_ℤ (sym turned ∙ h.1) ∙ sym (negated_product n f.den)),
    )
