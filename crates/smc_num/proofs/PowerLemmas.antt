-- Powers of fractions, by powers of their sizes.
use Rattle.std.proofs.Common.{◌≡◌, ℕ, zero, suc, ◌+◌, ◌*◌, ◌/◌, ◌%◌, ◌^◌, ◌<◌, ◌≤◌, Bool, true, false, cond, ◌&&◌, ◌==◌, ℤ, pos, negsuc, neg_ℤ, ◌<ℤ◌, ◌↔◌, int_lt, unsigned_abs, refl, sym, ◌∙◌, ap, ap₂, subst, arith, ◌⊎◌, inl, inr, ⊎_elim, pow-suc, pow-add, le-ltb, eq-eqb, ne_eqb, mod-lt, lt_of_le_of_lt, mul-zero, Err, IsErrOf}
use Rattle.std.specs.Int.{int_pow}
use Rattle.std.proofs.lemmas.Int.{ints}
use Rattle.std.proofs.lemmas.Bool.{cases_lt}
use native.Mathlib.Nat.{pow-le-pow_right, one-le-pow, mul-zero, div-add-mod}
use Rattle.smc_num.specs.declared.fault.NumFault.TheVariants.{OutsideDomain, OutOfLimit}
use Rattle.smc_num.specs.Gcd.{IsCoprime}
use Rattle.smc_num.specs.Fraction.{Fraction, IsFrac, limit, signed, within}
use Rattle.smc_num.specs.Arithmetic.{power_of}
use Rattle.smc_num.proofs.GcdLemmas.{coprime-pow}
use Rattle.smc_num.proofs.LowestLemmas.{unsigned_abs-signed, lowest_is, within-large, lowest-refusal, not_domain}

-- ---- powers of sizes

-- where a power reaches the limit, so does each with a larger exponent
pub no_power : (base j k : ℕ) → j ≤ k → (base ^ j < limit → ⊥) → base ^ k < limit → ⊥
no_power zero zero k less large small = large (omega arith)
no_power zero (suc j) k less large small = large (rw (pow-suc 0 j, mul-zero) (omega arith))
no_power (suc base) j k less large small = large (lt_of_le_of_lt (pow-le-pow_right {n = suc base} (omega arith) less) small)

-- a power from its square root
pub squared : (base k half : ℕ) → half ≡ base ^ (k / 2) → half * half ≡ base ^ (k / 2 + k / 2)
squared base k half is = ap₂ ◌*◌ is is ∙ sym (pow-add base (k / 2) (k / 2))

pub even_power : (base k half : ℕ) → half ≡ base ^ (k / 2) → (k % 2 ≡ 1 → ⊥) → half * half ≡ base ^ k
even_power base k half is even = squared base k half is ∙ ap (λ n. base ^ n) (omega (arith, div-add-mod k 2, mod-lt k {m = 2} (omega arith)))

pub odd_power : (base k half : ℕ) → half ≡ base ^ (k / 2) → k % 2 ≡ 1 → half * half * base ≡ base ^ k
odd_power base k half is odd =
    ap (λ n. n * base) (squared base k half is) ∙ sym (pow-suc base (k / 2 + k / 2)) ∙ ap (λ n. base ^ n) (omega (arith, div-add-mod k 2))

-- ---- powers of fractions

unsigned_abs-int_pow : (n : ℤ) (k : ℕ) → unsigned_abs (int_pow n k) ≡ unsigned_abs n ^ k
unsigned_abs-int_pow (pos n) k = refl
unsigned_abs-int_pow (negsuc n) k = by_parity (k % 2 == 0) (suc n ^ k)
  where
    by_parity : (even : Bool) (size : ℕ) → unsigned_abs (cond even (pos size) (neg_ℤ (pos size))) ≡ size
    by_parity true size = refl
    by_parity false size = unsigned_abs-signed true size

int_pow-signed : (n : ℤ) (k : ℕ) → int_pow n k ≡ signed (int_lt n (pos 0) && k % 2 == 1) (unsigned_abs n ^ k)
int_pow-signed (pos n) k = rw (le-ltb n 0 (omega arith))
int_pow-signed (negsuc n) k =
    ⊎_elim
    (λ (even : k % 2 < 1). rw (eq-eqb (k % 2) 0 (omega arith), ne_eqb (k % 2) 1 (λ e. omega arith)))
    (λ (odd : 1 ≤ k % 2). rw (ne_eqb (k % 2) 0 (λ e. omega arith), eq-eqb (k % 2) 1 (omega (arith, mod-lt k {m = 2} (omega arith)))))
    (cases_lt (k % 2) 1)

-- what a power of a fraction comes to
pub record IsPower (a : Fraction) (k : ℤ) (size den : ℕ) (negative : Bool) : Type 0 where
  pub coprime : IsCoprime size den
  pub some : 0 < den
  pub value : power_of a k ≡ within (signed negative size) den

pub power_by : (a : Fraction) (k : ℤ) (size den : ℕ) (negative : Bool) → IsFrac a → (int_lt k (pos 0) ≡ false) → size ≡ unsigned_abs a.num ^ unsigned_abs k → den ≡ a.den ^ unsigned_abs k
    → negative ≡ (int_lt a.num (pos 0) && unsigned_abs k % 2 == 1) → IsPower a k size den negative
unfolding power_of
power_by a (pos k) size den negative a_is up size_is den_is negative_is =
    let coprime : IsCoprime size den = subst (λ x. IsCoprime x den) (sym size_is) (subst (λ y. IsCoprime (unsigned_abs a.num ^ k) y) (sym den_is) (coprime-pow (unsigned_abs a.num) a.den k a_is.coprime)) in
    let some : 0 < a.den ^ k = one-le-pow k a.den a_is.den_some in
    let sizes = unsigned_abs-int_pow a.num k in
    let sign : int_pow a.num k ≡ signed negative (unsigned_abs (int_pow a.num k)) =
    int_pow-signed a.num k ∙ ap₂ signed (sym negative_is) (sym sizes) in
    record {
      coprime = coprime;
      some = subst (λ x. 0 < x) (sym den_is) some;
      value = lowest_is (int_pow a.num k) (a.den ^ k) negative size den some coprime sign (ap₂ ◌*◌ (sizes ∙ sym size_is) den_is);
    }
power_by a (negsuc k) size den negative a_is up size_is den_is negative_is = cc

limit_of_not : (n : ℕ) → (n < limit → ⊥) → limit ≤ n
limit_of_not n h = ⊎_elim (λ small. absurd (h small)) (λ large. large) (cases_lt n limit)

-- a power of a part that reaches the limit is refused
pub power-large : (a : Fraction) (k : ℤ) → IsFrac a → (int_lt k (pos 0) ≡ false) → ((unsigned_abs a.num ^ unsigned_abs k < limit → ⊥) ⊎ (a.den ^ unsigned_abs k < limit → ⊥)) → power_of a k ≡ Err OutOfLimit
power-large a k a_is up large =
    let negative = int_lt a.num (pos 0) && unsigned_abs k % 2 == 1 in
    let size = unsigned_abs a.num ^ unsigned_abs k in
    let is = power_by a k size (a.den ^ unsigned_abs k) negative a_is up refl refl refl in
    let outside : (limit ≤ unsigned_abs (signed negative size)) ⊎ (limit ≤ a.den ^ unsigned_abs k) =
    elim large [ inl h ↦ inl (subst (λ x. limit ≤ x) (sym (unsigned_abs-signed negative size)) (limit_of_not size h)) | inr h ↦ inr (limit_of_not (a.den ^ unsigned_abs k) h) ] in
    is.value ∙ within-large (signed negative size) (a.den ^ unsigned_abs k) outside

pub power_of-negative : (a : Fraction) (k : ℤ) → int_lt k (pos 0) ≡ true → power_of a k ≡ Err OutsideDomain
unfolding power_of
power_of-negative a (pos k) down = absurd (omega (arith, ints))
power_of-negative a (negsuc k) down = refl

pub power_of-domain : (a : Fraction) (k : ℤ) → IsErrOf (power_of a k) OutsideDomain ↔ (k <ℤ pos 0)
unfolding power_of
power_of-domain a (pos k) = (λ e. absurd (not_domain _ (lowest-refusal (int_pow a.num k) (a.den ^ k)) e), λ down. absurd (omega (arith, ints, down)))
power_of-domain a (negsuc k) = (λ e. omega (arith, ints), λ down. refl)
