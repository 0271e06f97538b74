-- How many decimals a fraction is written with.
use Rattle.std.proofs.Common.{◌≡◌, ℕ, zero, suc, ◌+◌, ◌-◌, ◌*◌, ◌%◌, ◌^◌, ◌<◌, ◌≤◌, Bool, true, false, not, cond, refl, sym, ◌∙◌, ap, ap₂, subst, eq-eqb, arith, ⊎_elim, eq-or-lt_of_le, pow-add}
use Rattle.std.proofs.lemmas.Bool.{cond-true, false≢true}
use Rattle.std.specs.Int.{◌∣◌}
use Rattle.std.proofs.lemmas.Nat.Gcd.{dvd_trans}
use native.Mathlib.Nat.{dvd-mul_right}
use Rattle.smc_num.specs.Gcd.{greatest, divides}
use Rattle.smc_num.specs.Fraction.{Fraction}
use Rattle.smc_num.proofs.GcdLemmas.{greatest_is, greatest_none, divides-true, true-divides}
use Rattle.prism_print.specs.Decimals.{decimals_of}

-- a greater power of ten is divided too
pub divides_more : (d i j : ℕ) → i ≤ j → divides d (10 ^ i) ≡ true → divides d (10 ^ j) ≡ true
divides_more d i j more passes =
    let apart : j ≡ i + (j - i) = omega arith in
    divides-true d (10 ^ j) (dvd_trans d (true-divides d (10 ^ i) passes)
    (subst (λ x. 10 ^ i ∣ x) (sym (ap (λ k. 10 ^ k) apart ∙ pow-add 10 i (j - i))) (dvd-mul_right (10 ^ i) (10 ^ (j - i)))))

-- what fails its opposite passes
pub not_not : (b : Bool) → not b ≡ true → b ≡ true → ⊥
not_not true fails passes = false≢true fails
not_not false fails passes = false≢true passes

-- the first number of decimals that is exact
pub first_exact : (f : Fraction) (k : ℕ) → 0 < k → k < 20 → divides f.den (10 ^ k) ≡ true
    → ((j : ℕ) → 0 < j → j < k → divides f.den (10 ^ j) ≡ false) → k ≡ decimals_of f
first_exact f k some few exact none = by_cases k some few exact none
  where
    by_cases : (k : ℕ) → 0 < k → k < 20 → divides f.den (10 ^ k) ≡ true
        → ((j : ℕ) → 0 < j → j < k → divides f.den (10 ^ j) ≡ false) → k ≡ decimals_of f
    by_cases zero some few exact none = absurd (omega (arith, some))
    by_cases (suc zero) some few exact none =
        ap suc (sym (greatest_none (λ k. not (divides f.den (10 ^ k))) 18 (λ d above passes.
        not_not (divides f.den (10 ^ d)) passes (divides_more f.den 1 d (omega arith) exact))))
    by_cases (suc (suc k)) some few exact none =
        ap suc (sym (greatest_is (λ k. not (divides f.den (10 ^ k))) 18 (suc k) (omega arith) (omega arith)
        (ap not (none (suc k) (omega arith) (omega arith)))
        (λ d above passes. not_not (divides f.den (10 ^ d)) passes (divides_more f.den (suc (suc k)) d (omega arith) exact))))

-- a test that the bound passes
at_last : (test : ℕ → Bool) → test 18 ≡ true → greatest test 18 ≡ 18
unfolding greatest
at_last test passes = cond-true (test 18) 18 (greatest test 17) passes

-- no number of decimals is exact
none_exact : (f : Fraction) → ((j : ℕ) → 0 < j → j < 19 → divides f.den (10 ^ j) ≡ false) → 19 ≡ decimals_of f
none_exact f none =
    ap suc (sym (at_last (λ k. not (divides f.den (10 ^ k))) (ap not (none 18 (omega arith) (omega arith)))))

-- the first power of ten that a division leaves no rest of
pub found_exact : (f : Fraction) (den power k : ℕ) → den ≡ f.den → power ≡ 10 ^ k → power % den ≡ 0 → 0 < k → k < 20
    → ((j : ℕ) → 0 < j → j < k → divides den (10 ^ j) ≡ false) → k ≡ decimals_of f
found_exact f den power k same is whole some few none =
    first_exact f k some few (eq-eqb (10 ^ k % f.den) 0 (ap₂ (λ p d. p % d) (sym is) (sym same) ∙ whole))
    (λ j a b. subst (λ d. divides d (10 ^ j) ≡ false) same (none j a b))

-- no power of ten is divided
pub found_none : (f : Fraction) (den : ℕ) → den ≡ f.den
    → ((j : ℕ) → 0 < j → j < 19 → divides den (10 ^ j) ≡ false) → 19 ≡ decimals_of f
found_none f den same none =
    none_exact f (λ j a b. subst (λ d. divides d (10 ^ j) ≡ false) same (none j a b))
