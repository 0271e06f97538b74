-- The opposite of a probability is one too, in lowest terms over the same denominator.
use Rattle.std.proofs.Common.{◌≡◌, ◌∙◌, ◌<◌, ◌≤◌, ◌+◌, ◌-◌, ◌||◌, ℕ, zero, suc, Bool, true, false, refl, sym, ap, ap₂, arith, pos, Result, Ok, Err, w64, to_z, of_z, nat_lt, if◌then◌else◌}
use Rattle.std.specs.Prelude.{ℤ, negsuc, int_lt, unsigned_abs, ◌-ℤ◌, ◌*ℤ◌}
use Rattle.std.proofs.Math.IntN.{sub_ℕ}
use Rattle.std.proofs.Math.Nat.{dvd-sub_iff_right, one-dvd}
use Rattle.std.proofs.lemmas.Bool.{or_parts, ltb-false, le-ltb}
use Rattle.smc_num.specs.Fraction.{Fraction, IsFrac, limit, fraction_of}
use Rattle.smc_num.specs.declared.fault.NumFault.{NumFault}
use Rattle.smc_num.proofs.LowestLemmas.{fraction_of-value}
use Rattle.smc_num.proofs.SignedLemmas.{passed}
use Rattle.chain_model.specs.declared.job.Claim.{Claim}
use Rattle.wald_test.specs.Settings.{theta_outside, size}
use Rattle.run_goal.specs.Goal.{complement, tested}

-- a probability is so many parts of its denominator
pub record IsPart (n : ℤ) (d : ℕ) : Type 0 where
  pub whole : n ≡ pos (unsigned_abs n)
  pub below : unsigned_abs n ≤ d

part_of : (n : ℤ) (d : ℕ) → int_lt n (pos 0) ≡ false → int_lt (pos d) n ≡ false → IsPart n d
part_of (pos k) d low high = record { whole = refl; below = ltb-false d k high }
part_of (negsuc k) d low high = cc

pub is_part : (a : Fraction) → theta_outside a ≡ false → IsPart a.num a.den
is_part a inside =
    let tests = or_parts (int_lt a.num (pos 0)) (int_lt (pos a.den) a.num) inside in
    part_of a.num a.den tests.0 tests.1

-- what is left of the parts
left : (k d : ℕ) → k ≤ d → sub_ℕ d k ≡ pos (d - k)
left k d small = ap (λ b. if b then negsuc (k - suc d) else pos (d - k)) (le-ltb d k small)

left_over : (k d : ℕ) → k ≤ d → pos d -ℤ pos k ≡ pos (d - k)
left_over zero d small = let e : d - 0 ≡ d + 0 = omega arith in rw e refl
left_over (suc k) d small = left (suc k) d small

opposite-IsFrac : (a : Fraction) → IsFrac a → theta_outside a ≡ false → IsFrac (complement a)
opposite-IsFrac a is inside =
    let below : size a ≤ a.den = (is_part a inside).below in
    let small : a.den < limit = is.den_small in
    record {
      coprime = (one-dvd _, one-dvd _, λ d p q. is.coprime.2 d ((dvd-sub_iff_right d below q).0 p) q);
      num_small = omega (arith, below, small);
      den_small = small;
      den_some = is.den_some;
    }

-- the rest of the parts over the denominator is the opposite
rest_made :
    (a : Fraction) (n d : ℤ) → IsFrac a → theta_outside a ≡ false → n ≡ pos (a.den - size a) → d ≡ pos a.den → fraction_of n d ≡ Ok (complement a)
rest_made a n d is inside top bottom =
    let some : (d ≡ pos 0) → ⊥ = λ none. let parts : pos a.den ≡ pos 0 = sym bottom ∙ none in let den : a.den ≡ 0 = cc in let more : 0 < a.den = is.den_some in absurd (omega (arith, den, more)) in
    let value : pos (a.den - size a) *ℤ d ≡ n *ℤ pos a.den = ap₂ (λ x y. x *ℤ y) (sym top) bottom in
    (fraction_of-value n d (complement a) some).1 (opposite-IsFrac a is inside, value)

-- the same in machine numbers
pub opposite_made :
    (a : Fraction) (den num below : ℤ) (r : Result Fraction NumFault) → IsFrac a → theta_outside a ≡ false → den ≡ pos a.den → num ≡ a.num → below ≡ pos a.den
    → r ≡ fraction_of (to_z w64 (of_z w64 (to_z w64 (of_z w64 den) -ℤ to_z w64 (of_z w64 num)))) (to_z w64 (of_z w64 below)) → r ≡ Ok (complement a)
opposite_made a den num below r is inside den_is num_is below_is made =
    let part = is_part a inside in
    let few : size a ≤ a.den = part.below in
    let small : a.den < limit = is.den_small in
    let whole : ℤ → ℤ = λ z. to_z w64 (of_z w64 z) in
    let top : whole den ≡ pos a.den = ap whole den_is ∙ passed (pos a.den) small in
    let taken : whole num ≡ a.num = ap whole num_is ∙ passed a.num is.num_small in
    let bottom : whole below ≡ pos a.den = ap whole below_is ∙ passed (pos a.den) small in
    let rest : (whole den -ℤ whole num) ≡ pos (a.den - size a) = ap₂ (λ x y. x -ℤ y) top (taken ∙ part.whole) ∙ left_over (size a) a.den few in
    let number : whole (whole den -ℤ whole num) ≡ pos (a.den - size a) = ap whole rest ∙ passed (pos (a.den - size a)) (omega (arith, few, small)) in
    made ∙ rest_made a _ _ is inside number bottom

-- ---- the probability that is tested

pub tested-den : (claim : Claim) → (tested claim).den ≡ claim.theta.den
tested-den claim = elim claim.at_most as (λ b. (if b then complement claim.theta else claim.theta).den ≡ claim.theta.den) [ true ↦ refl | false ↦ refl ]

opposite_inside : (a : Fraction) → theta_outside (complement a) ≡ false
opposite_inside a =
    let low : nat_lt (a.den - size a) 0 ≡ false = le-ltb (a.den - size a) 0 (omega arith) in
    let high : nat_lt a.den (a.den - size a) ≡ false = le-ltb a.den (a.den - size a) (omega arith) in
    ap₂ (λ x y. x || y) low high

pub tested_inside : (claim : Claim) → theta_outside claim.theta ≡ false → theta_outside (tested claim) ≡ false
tested_inside claim inside = elim claim.at_most as (λ b. theta_outside (if b then complement claim.theta else claim.theta) ≡ false) [ true ↦ opposite_inside claim.theta | false ↦ inside ]
