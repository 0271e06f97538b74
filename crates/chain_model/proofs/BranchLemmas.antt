-- The branch that a draw takes, by the sums of the weights before it and through it.
use Rattle.std.proofs.Common.{◌≡◌, ℕ, ◌+◌, ◌*◌, ◌^◌, ◌<◌, ◌≤◌, zero, suc, Bool, true, false, List, [], ◌∷◌, length, take, refl, sym, ◌∙◌, ap, subst, inl, inr, arith, add-one}
use Rattle.std.specs.Prelude.{nat_lt, sum, map}
use Rattle.std.proofs.Math.Nat.{mul-lt-mul_of_pos_right}
use Rattle.std.proofs.lemmas.Bool.{cases_lt, cond-true, cond-false, lt-ltb, le-ltb, le-leb}
use Rattle.std.proofs.lemmas.List.{length-map}
use Rattle.std.proofs.lemmas.List.Sums.{sum_by-cons}
use Rattle.std.proofs.lemmas.Nat.{div_below}
use Rattle.smc_num.specs.Fraction.{Fraction}
use Rattle.trace_streams.specs.Pick.{pick_of, IsTaken}
use Rattle.chain_model.specs.Step.{running_sums, first_above, branch_number, numerators_of, denominator_of, is_drawn}

-- the sum of a number and further ones
sum-cons : (n : ℕ) (ns : List ℕ) → sum (n ∷ ns) ≡ n + sum ns
sum-cons n ns = sum_by-cons (λ (m : ℕ). m) n ns

-- a pick is below the number of parts
pub pick_below : (w parts : ℕ) → w < 2 ^ 64 → 1 ≤ parts → pick_of w parts < parts
pick_below w parts word some =
    let whole : w * parts < 2 ^ 64 * parts = mul-lt-mul_of_pos_right {m = w} {n = 2 ^ 64} {k = parts} word (omega arith) in
    div_below (w * parts) (2 ^ 64) parts (omega arith) (omega arith)

-- a branch holds what is picked: it is at least the sum before the branch, and below the sum through it
pub record Holds (picked before : ℕ) (weights : List ℕ) (number : ℕ) : Type 0 where
  pub within : number < length weights
  pub low : before + sum (take number weights) ≤ picked
  pub high : picked < before + sum (take (suc number) weights)

-- the branch that holds what is picked is the first whose running sum exceeds it
pub first_above-from_holds : (picked before : ℕ) (weights : List ℕ) (number : ℕ) → Holds picked before weights number
    → first_above picked (running_sums before weights) ≡ number
first_above-from_holds picked before [] number holds = absurd (omega (arith, holds.within))
first_above-from_holds picked before (n ∷ ns) zero holds =
    let through : sum (take 1 (n ∷ ns)) ≡ n + sum (take 0 ns) = sum-cons n (take 0 ns) in
    cond-true (nat_lt picked (before + n)) 0 (suc (first_above picked (running_sums (before + n) ns)))
    (lt-ltb picked (before + n) (omega (arith, holds.high, through)))
first_above-from_holds picked before (n ∷ ns) (suc number) holds =
    let before_it : sum (take (suc number) (n ∷ ns)) ≡ n + sum (take number ns) = sum-cons n (take number ns) in
    let through : sum (take (suc (suc number)) (n ∷ ns)) ≡ n + sum (take (suc number) ns) = sum-cons n (take (suc number) ns) in
    cond-false (nat_lt picked (before + n)) 0 (suc (first_above picked (running_sums (before + n) ns)))
    (le-ltb picked (before + n) (omega (arith, holds.low, before_it)))
    ∙ ap suc (first_above-from_holds picked (before + n) ns number (record {
      within = omega (arith, holds.within);
      low = omega (arith, holds.low, before_it);
      high = omega (arith, holds.high, through);
    }))

-- where the sum of all weights exceeds what is picked, the first whose running sum does holds it
pub holds-first_above : (picked before : ℕ) (weights : List ℕ) → before ≤ picked → picked < before + sum weights
    → Holds picked before weights (first_above picked (running_sums before weights))
holds-first_above picked before [] low high = absurd (omega (arith, low, high))
holds-first_above picked before (n ∷ ns) low high =
    let whole : sum (n ∷ ns) ≡ n + sum ns = sum-cons n ns in
    elim (cases_lt picked (before + n)) [
      | inl below ↦
          subst (Holds picked before (n ∷ ns))
          (sym (cond-true (nat_lt picked (before + n)) 0 (suc (first_above picked (running_sums (before + n) ns))) (lt-ltb picked (before + n) below)))
          (record { within = omega arith; low = omega (arith, low); high = omega (arith, below, sum-cons n (take 0 ns)) })
      | inr past ↦
          let rest : Holds picked (before + n) ns (first_above picked (running_sums (before + n) ns)) =
          holds-first_above picked (before + n) ns past (omega (arith, high, whole)) in
          let number : ℕ = first_above picked (running_sums (before + n) ns) in
          subst (Holds picked before (n ∷ ns))
          (sym (cond-false (nat_lt picked (before + n)) 0 (suc (first_above picked (running_sums (before + n) ns))) (le-ltb picked (before + n) past)))
          (record {
            within = omega (arith, rest.within);
            low = omega (arith, rest.low, sum-cons n (take number ns));
            high = omega (arith, rest.high, sum-cons n (take (suc number) ns));
          })
    ]

-- of several branches the first whose running sum exceeds the pick is taken
branch_number-several : (draw : ℕ → ℕ) (position : ℕ) (weights : List Fraction) → 2 ≤ length weights
    → branch_number draw position weights ≡ first_above (pick_of (draw position) (denominator_of weights)) (running_sums 0 (numerators_of weights))
branch_number-several draw position weights several =
    cond-true (is_drawn (length weights)) (first_above (pick_of (draw position) (denominator_of weights)) (running_sums 0 (numerators_of weights))) 0
    (le-leb 2 (length weights) several)

-- a branch is taken exactly where it holds the pick
pub taken-from_pick : (draw : ℕ → ℕ) (position number : ℕ) (weights : List Fraction) → 2 ≤ length weights → number < length weights
    → IsTaken (sum (take number (numerators_of weights))) (sum (take (number + 1) (numerators_of weights))) (denominator_of weights) (draw position)
    → branch_number draw position weights ≡ number
taken-from_pick draw position number weights several within taken =
    let numerators : List ℕ = numerators_of weights in
    let long : length numerators ≡ length weights = length-map weights _ in
    let through : sum (take (number + 1) numerators) ≡ sum (take (suc number) numerators) =
    ap (λ (k : ℕ). sum (take k numerators)) (add-one number) in
    branch_number-several draw position weights several
    ∙ first_above-from_holds (pick_of (draw position) (denominator_of weights)) 0 numerators number (record {
      within = omega (arith, within, long);
      low = omega (arith, taken.0);
      high = omega (arith, taken.1, through);
    })

pub pick-from_taken : (draw : ℕ → ℕ) (position number : ℕ) (weights : List Fraction) → 2 ≤ length weights
    → draw position < 2 ^ 64 → sum (numerators_of weights) ≡ denominator_of weights → 1 ≤ denominator_of weights
    → branch_number draw position weights ≡ number
    → (number < length weights)
    × IsTaken (sum (take number (numerators_of weights))) (sum (take (number + 1) (numerators_of weights))) (denominator_of weights) (draw position)
pick-from_taken draw position number weights several word whole some taken =
    let numerators : List ℕ = numerators_of weights in
    let picked : ℕ = pick_of (draw position) (denominator_of weights) in
    let long : length numerators ≡ length weights = length-map weights _ in
    let bound : picked < denominator_of weights = pick_below (draw position) (denominator_of weights) word some in
    let holds : Holds picked 0 numerators number =
    subst (Holds picked 0 numerators) (sym (branch_number-several draw position weights several) ∙ taken)
    (holds-first_above picked 0 numerators (omega arith) (omega (arith, bound, whole))) in
    let through : sum (take (number + 1) numerators) ≡ sum (take (suc number) numerators) =
    ap (λ (k : ℕ). sum (take k numerators)) (add-one number) in
    (omega (arith, holds.within, long), (omega (arith, holds.low), omega (arith, holds.high, through)))
