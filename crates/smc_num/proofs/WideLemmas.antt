-- Numbers that are not too wide have a value.
use Rattle.std.proofs.Common.{◌≡◌, ℕ, suc, ◌*◌, ◌/◌, ◌^◌, ◌<◌, ◌≤◌, Bool, true, false, ℤ, pos, negsuc, int_div, int_lt, unsigned_abs, nat_le, ◌&&◌, refl, sym, ◌∙◌, ap, arith, ◌⊎◌, inl, inr, ◌↔◌, Result, Ok, Err, lt-ltb, le-ltb, le-leb}
use Rattle.std.proofs.lemmas.Bool.{cond-true, cond-false, or_parts, and_left, and_right, and_from, leb-false, cases_lt}
use Rattle.std.proofs.lemmas.Int.{ints}
use native.Mathlib.Nat.{pow-le-pow_right, div-le_self}
use Rattle.smc_num.specs.declared.fault.NumFault.{NumFault}
use Rattle.smc_num.specs.declared.fault.ReadNum.TheVariants.{OutOfLimit}
use Rattle.smc_num.specs.Gcd.{gcd_of}
use Rattle.smc_num.specs.Fraction.{Fraction, limit, signed, lowest}
use Rattle.smc_num.specs.Spelling.{is_wide, readable, scaled_of, limited_of, ratio_of}
use Rattle.smc_num.proofs.LowestLemmas.{unsigned_abs-signed, int_div-signed, within-small}

-- what has a value is not refused as too wide
readable_value : (r : Result Fraction NumFault) (f : Fraction) → r ≡ Ok f → readable r ≡ Err OutOfLimit → ⊥
readable_value r f is refused = let clash : Ok f ≡ Err OutOfLimit = sym (ap readable is) ∙ refused in cc

-- two sizes within the limits have lowest terms
lowest-small : (negative : Bool) (size d : ℕ) → size < limit → d < limit → readable (lowest (signed negative size) d) ≡ Err OutOfLimit → ⊥
unfolding lowest
lowest-small negative size d size_small d_small =
    let shared = gcd_of (unsigned_abs (signed negative size)) d in
    let part : unsigned_abs (int_div (signed negative size) (pos shared)) ≡ size / shared =
    ap unsigned_abs (int_div-signed negative size shared) ∙ unsigned_abs-signed negative (size / shared) in
    readable_value _ _
    (within-small (int_div (signed negative size) (pos shared)) (d / shared) (omega (arith, part, div-le_self size shared)) (omega (arith, div-le_self d shared)))

-- digits times a power of ten are refused exactly where they are too wide
pub limited_wide : (negative : Bool) (m : ℕ) (e : ℤ) → (limited_of negative m e ≡ Err OutOfLimit) ↔ (is_wide m e ≡ true)
unfolding limited_of
limited_wide negative m e = (λ refused. by_cases (is_wide m e) refl refused, λ wide. cond-true _ _ _ wide)
  where
    not_wide : (e : ℤ) → is_wide m e ≡ false → readable (scaled_of negative m e) ≡ Err OutOfLimit → ⊥
    not_wide (pos k) narrow =
        let below = or_parts (nat_le limit m) _ narrow in
        let whole : nat_le limit (m * 10 ^ k) ≡ false =
        ap (λ some. some && nat_le limit (m * 10 ^ k)) (sym (le-leb 0 k (omega arith))) ∙ (or_parts (int_lt (pos k) (negsuc 17)) _ below.1).1 in
        lowest-small negative (m * 10 ^ k) 1 (leb-false limit (m * 10 ^ k) whole) (omega arith)
    not_wide (negsuc k) narrow =
        let parts = or_parts (nat_le limit m) _ narrow in
        let low : k ≤ 17 = omega (arith, ints, (or_parts (int_lt (negsuc k) (negsuc 17)) _ parts.1).0) in
        lowest-small negative m (10 ^ suc k) (leb-false limit m parts.0) (omega (arith, pow-le-pow_right {n = 10} (omega arith) {i = suc k} {j = 18} (omega arith)))

    by_cases : (wide : Bool) → is_wide m e ≡ wide → limited_of negative m e ≡ Err OutOfLimit → is_wide m e ≡ true
    by_cases true is refused = is
    by_cases false is refused = absurd (not_wide e is (sym (cond-false _ _ _ is) ∙ refused))

-- two whole numbers with a bar are refused exactly where one of them reaches the limit
pub ratio_wide : (negative : Bool) (m n : ℕ) → (ratio_of negative m n ≡ Err OutOfLimit) ↔ ((limit ≤ m) ⊎ (limit ≤ n))
unfolding ratio_of
ratio_wide negative m n = (refused_wide, wide_refused)
  where
    wide_refused : (limit ≤ m) ⊎ (limit ≤ n) → ratio_of negative m n ≡ Err OutOfLimit
    wide_refused (inl large) = cond-false _ _ _ (and_left _ _ (le-ltb m limit large))
    wide_refused (inr large) = cond-false _ _ _ (and_right _ _ (le-ltb n limit large))

    refused_wide : ratio_of negative m n ≡ Err OutOfLimit → (limit ≤ m) ⊎ (limit ≤ n)
    refused_wide refused = elim (cases_lt m limit) [
      | inl m_small ↦ elim (cases_lt n limit) [
        | inl n_small ↦ absurd (lowest-small negative m n m_small n_small (sym (cond-true _ _ _ (and_from _ _ (lt-ltb m limit m_small) (lt-ltb n limit n_small))) ∙ refused))
        | inr large ↦ inr large
      ]
      | inr large ↦ inl large
    ]
