-- Two weights with one denominator that add up to 1.
use Rattle.std.proofs.Common.{◌≡◌, ◌==◌, ℕ, suc, All, get_or, subst, ◌+◌, ◌*◌, ◌/◌, ◌<◌, ◌≤◌, ◌^◌, List, [], ◌∷◌, length, refl, sym, ap, ◌∙◌, arith, Ok, nat_lt, Result}
use Rattle.std.specs.Prelude.{sum, not, unsigned_abs, if◌then◌else◌}
use Rattle.std.proofs.Math.Nat.{div_self, one-dvd}
use Rattle.std.proofs.lemmas.Nat.Gcd.{dvd_antisymm, dvd_refl}
use Rattle.std.proofs.lemmas.Bool.{eq-eqb, le-ltb, lt-ltb}
use Rattle.smc_num.specs.Fraction.{Fraction}
use Rattle.smc_num.specs.Gcd.{lcm_of}
use Rattle.smc_num.proofs.GcdLemmas.{lcm_first, lcm_second, lcm_least}
use Rattle.trace_streams.specs.Pick.{pick_of}
use Rattle.chain_model.specs.declared.outcome.TraceFault.{TraceFault}
use Rattle.chain_model.specs.declared.outcome.TraceFault.TheVariants.{Weights, Denominator}
use Rattle.chain_model.specs.Limits.{most_weight_denominator}
use Rattle.chain_model.specs.Results.{◌>>◌, refuse_if}
use Rattle.chain_model.specs.Step.{first_above, running_sums}
use Rattle.trace_meaning.specs.Weights.{IsWeight}
use Rattle.successors.specs.Weighing.{IsShare}

-- the least common multiple of 1 and a number, and of a number and itself
multiple_of_one : (d : ℕ) → lcm_of 1 d ≡ d
multiple_of_one d = dvd_antisymm (lcm_least 1 d d (one-dvd d) (dvd_refl d)) (lcm_second 1 d)

multiple_of_same : (d : ℕ) → lcm_of d d ≡ d
multiple_of_same d = dvd_antisymm (lcm_least d d d (dvd_refl d) (dvd_refl d)) (lcm_first d d)

-- what a picked part and the numerators over a denominator say
abbrev said : ℕ → ℕ → ℕ → ℕ → ℕ → Result ℕ TraceFault
said picked command den m n = do
  refuse_if (nat_lt most_weight_denominator den) (Denominator command)
  refuse_if (not (sum (m ∷ (n ∷ [])) == den)) (Weights command)
  Ok (first_above picked (running_sums 0 (m ∷ (n ∷ []))))

-- numerators that add up to the denominator
said_whole : (picked command den m n : ℕ) → den ≤ 2 ^ 48 → m + n ≡ den → picked < den → said picked command den m n ≡ Ok (first_above picked (m ∷ []))
said_whole picked command den m n few adds below =
    let total : sum (m ∷ (n ∷ [])) ≡ den = omega (arith, adds) in
    (λ i. refuse_if (le-ltb most_weight_denominator den few i) (Denominator command)
    >> (refuse_if (not (total i == den)) (Weights command) >> Ok (first_above picked (running_sums 0 (m ∷ (n ∷ []))))))
    ∙ ap (λ b. refuse_if (not b) (Weights command) >> Ok (first_above picked (running_sums 0 (m ∷ (n ∷ []))))) (eq-eqb den den refl)
    ∙ ap (λ k. Ok (first_above picked (k ∷ ((k + n) ∷ [])))) (let none : 0 + m ≡ m = omega arith in none)
    ∙ ap (λ b. Ok (if nat_lt picked m then 0 else suc (if b then 0 else 1))) (lt-ltb picked (m + n) (omega (arith, adds, below)))

-- so two weights say a share
pub share : (a b : Fraction) → IsWeight a → a.den ≡ b.den → a.den ≤ 2 ^ 48 → unsigned_abs a.num + unsigned_abs b.num ≡ a.den
    → IsShare (a ∷ (b ∷ [])) (unsigned_abs a.num) a.den
share a b weight same few adds =
    let d = a.den in
    let common : lcm_of (lcm_of 1 a.den) b.den ≡ a.den =
    ap (λ n. lcm_of n b.den) (multiple_of_one a.den) ∙ ap (lcm_of a.den) (sym same) ∙ multiple_of_same a.den in
    let one : a.den / a.den ≡ 1 = div_self weight.some in
    record {
      two = refl;
      some = weight.some;
      few = few;
      branch = λ draw position command below.
          (λ i. said (pick_of (draw position) (common i)) command (common i) (unsigned_abs a.num * (common i / a.den)) (unsigned_abs b.num * (common i / sym same i)))
          ∙ (λ i. said (pick_of (draw position) a.den) command a.den (unsigned_abs a.num * one i) (unsigned_abs b.num * one i))
          ∙ said_whole (pick_of (draw position) a.den) command a.den (unsigned_abs a.num * 1) (unsigned_abs b.num * 1) few (omega (arith, adds)) below
          ∙ ap (λ m. Ok (first_above (pick_of (draw position) a.den) (m ∷ []))) (omega arith);
    }

-- a list of two weights, by its items
pub share_in : (weights : List Fraction) (a b : Fraction) → All IsWeight weights → 2 ≤ length weights → length weights ≤ 2 → a ≡ get_or weights 0 a → b ≡ get_or weights 1 b
    → b.den ≡ a.den → a.den ≤ 2 ^ 48 → unsigned_abs a.num + unsigned_abs b.num ≡ a.den → IsShare weights (unsigned_abs a.num) a.den
share_in [] a b are some most first second same few adds = absurd (omega (arith, some))
share_in (x ∷ []) a b are some most first second same few adds = absurd (omega (arith, some))
share_in (x ∷ (y ∷ (z ∷ zs))) a b are some most first second same few adds = absurd (omega (arith, most))
share_in (x ∷ (y ∷ [])) a b are some most first second same few adds =
    subst (λ (ws : List Fraction). IsShare ws (unsigned_abs a.num) a.den) (λ i. first i ∷ (second i ∷ []))
    (share a b (subst IsWeight (sym first) (are 0 x (omega arith))) (sym same) few adds)
