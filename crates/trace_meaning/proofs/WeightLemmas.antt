-- Weights over their least common denominator.
use Rattle.std.proofs.Common.{◌≡◌, ℕ, zero, suc, ◌+◌, ◌*◌, ◌/◌, ◌<◌, ◌≤◌, List, [], ◌∷◌, length, get_or, drop, All, refl, sym, ap, ◌∙◌, arith, nat_lt}
use Rattle.std.specs.Prelude.{sum, fold, unsigned_abs, if◌then◌else◌}
use Rattle.std.proofs.Math.Nat.{mul-div-le}
use native.Mathlib.Nat.{div-mul_cancel, zero-mul, mul-suc}
use Rattle.std.proofs.lemmas.List.{at_drop_more}
use Rattle.std.proofs.lemmas.List.Sums.{sum_by-cons}
use Rattle.std.proofs.lemmas.List.Elements.{All-get_or, All-head, All-tail, All-drop}
use Rattle.smc_num.specs.Gcd.{lcm_of, gcd_of}
use Rattle.smc_num.specs.Fraction.{Fraction}
use Rattle.smc_num.proofs.GcdLemmas.{gcd_of-IsGcd, gcd_some}
use Rattle.chain_model.specs.Step.{first_above, running_sums, denominator_of}
use Rattle.trace_meaning.specs.Weights.{IsWeight, numerators_over}

-- the numerator of a weight is at most the denominator
pub numerator-le : (weight : Fraction) (den : ℕ) → IsWeight weight → unsigned_abs weight.num * (den / weight.den) ≤ den
numerator-le weight den is =
    let first : unsigned_abs weight.num * (den / weight.den) ≤ weight.den * (den / weight.den) = grind (arith, is.most) in
    omega (arith, first, mul-div-le den weight.den)

-- the sum of the numerators from one weight on
pub sum_at : (den : ℕ) (weights : List Fraction) (i : ℕ) (d : Fraction) → i < length weights
    → sum (numerators_over den (drop i weights))
    ≡ unsigned_abs (get_or weights i d).num * (den / (get_or weights i d).den) + sum (numerators_over den (drop (i + 1) weights))
sum_at den weights i d lt =
    at_drop_more (λ (ws : List Fraction). sum (numerators_over den ws)) weights i d lt
    ∙ sum_by-cons (λ (n : ℕ). n) (unsigned_abs (get_or weights i d).num * (den / (get_or weights i d).den)) (numerators_over den (drop (i + 1) weights))

-- the first running sum that exceeds a number, from one weight on
pub above_at : (den picked before : ℕ) (weights : List Fraction) (i : ℕ) (d : Fraction) → i < length weights
    → first_above picked (running_sums before (numerators_over den (drop i weights)))
    ≡ (if nat_lt picked (before + unsigned_abs (get_or weights i d).num * (den / (get_or weights i d).den)) then 0
    else suc (first_above picked (running_sums (before + unsigned_abs (get_or weights i d).num * (den / (get_or weights i d).den)) (numerators_over den (drop (i + 1) weights)))))
above_at den picked before weights i d lt =
    at_drop_more (λ (ws : List Fraction). first_above picked (running_sums before (numerators_over den ws))) weights i d lt

-- a product that is not 0 has no factor 0
some_factor : (a b : ℕ) → 0 < a * b → 0 < a
some_factor zero b some = absurd (omega (arith, some, zero-mul b))
some_factor (suc a) b some = omega arith

-- a number is at most its multiples
times_some : (a b : ℕ) → 0 < b → a ≤ a * b
times_some a (suc b) some = omega (arith, mul-suc a b)
times_some a zero some = absurd (omega (arith, some))

-- a least common multiple is at least the first number
pub lcm-le : (a b : ℕ) → 0 < b → a ≤ lcm_of a b
unfolding lcm_of
lcm-le a b some =
    let shared = gcd_of-IsGcd a b in
    let divisor : 0 < gcd_of a b = gcd_some a b (gcd_of a b) shared (omega (arith, some)) in
    let whole : b / gcd_of a b * gcd_of a b ≡ b = div-mul_cancel (gcd_of a b) shared.1 in
    let part : 0 < b / gcd_of a b = some_factor (b / gcd_of a b) (gcd_of a b) (omega (arith, whole, some)) in
    times_some a (b / gcd_of a b) part

-- and so is the least common denominator of further weights
fold_lcm-le : (weights : List Fraction) (den : ℕ) → All IsWeight weights → den ≤ fold (λ d weight. lcm_of d weight.den) den weights
fold_lcm-le [] den all = omega arith
fold_lcm-le (weight ∷ weights) den all =
    let is : IsWeight weight = All-head IsWeight weight weights all in
    omega (
      arith,
      lcm-le den weight.den is.some,
      fold_lcm-le weights (lcm_of den weight.den) (All-tail IsWeight weight weights all),
    )

-- the least common denominator, one weight further
pub denominator_at : (weights : List Fraction) (i common next : ℕ) (d : Fraction) → i < length weights → next ≡ lcm_of common (get_or weights i d).den
    → fold (λ den weight. lcm_of den weight.den) common (drop i weights) ≡ fold (λ den weight. lcm_of den weight.den) next (drop (i + 1) weights)
denominator_at weights i common next d lt is =
    at_drop_more (λ (ws : List Fraction). fold (λ den weight. lcm_of den weight.den) common ws) weights i d lt
    ∙ ap (λ n. fold (λ den weight. lcm_of den weight.den) n (drop (i + 1) weights)) (sym is)

-- a multiple that is too large stays so
pub denominator_grows : (weights : List Fraction) (i common : ℕ) (d : Fraction) → All IsWeight weights → i < length weights
    → fold (λ den weight. lcm_of den weight.den) common (drop i weights) ≡ denominator_of weights
    → lcm_of common (get_or weights i d).den ≤ denominator_of weights
denominator_grows weights i common d all lt so =
    let next : ℕ = lcm_of common (get_or weights i d).den in
    let step : fold (λ den weight. lcm_of den weight.den) common (drop i weights) ≡ fold (λ den weight. lcm_of den weight.den) next (drop (i + 1) weights) =
    denominator_at weights i common next d lt refl in
    omega (arith, so, step, fold_lcm-le (drop (i + 1) weights) next (All-drop IsWeight (i + 1) weights all))

-- a weight of the list has a denominator
pub weight_at : (weights : List Fraction) (i : ℕ) (weight : Fraction) (den : ℕ) → All IsWeight weights → i < length weights → weight ≡ get_or weights i weight
    → den ≡ weight.den → 0 < den
weight_at weights i weight den all lt is same =
    let here : IsWeight (get_or weights i weight) = All-get_or IsWeight weights i weight lt all in
    omega (arith, same, ap (λ (f : Fraction). f.den) is, here.some)
