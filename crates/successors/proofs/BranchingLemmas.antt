-- How the branch that a command takes in a state depends on the draw, by its weights.
use Rattle.std.proofs.Common.{◌≡◌, ◌==◌, ℕ, ◌<◌, ◌≤◌, ◌^◌, List, [], ◌∷◌, length, Bool, true, false, refl, sym, ap, ◌∙◌, arith, nat_lt, Result, Ok}
use Rattle.std.specs.Prelude.{sum, if◌then◌else◌}
use Rattle.std.proofs.lemmas.Bool.{lt-ltb, le-ltb}
use Rattle.smc_num.specs.Fraction.{Fraction}
use Rattle.trace_streams.specs.Pick.{pick_of, first_draw}
use Rattle.chain_model.specs.declared.outcome.TraceFault.{TraceFault}
use Rattle.chain_model.specs.declared.chain.Chain.{Chain}
use Rattle.chain_model.specs.Results.{◌>>=◌}
use Rattle.chain_model.specs.States.{State}
use Rattle.chain_model.specs.Step.{arms_of, weights_of, denominator_of, numerators_of, draws_for, is_drawn, first_above, running_sums, branch_of}
use Rattle.guard_code.specs.Tests.{IsSmall}
use Rattle.trace_meaning.specs.Weights.{numerators_over}
use Rattle.trace_meaning.proofs.BranchLemmas.{branch_picked, weights_long}
use Rattle.successors.specs.Weighing.{weighed_branch, IsShare, IsCertain, HasThresholds}
use Rattle.successors.specs.Branching.{IsSure, IsByDraw}
use Rattle.successors.proofs.FixedLemmas.{Law, picks_below, pick_within}
use Rattle.successors.proofs.WeightLemmas.{branch_weighed}

-- the same either way
pub either_way : {A : Type 0} (b : Bool) (x : A) → (if b then x else x) ≡ x
either_way true x = refl
either_way false x = refl

-- a certain command, and one with a threshold, in a state
pub sure_certain : (chain : Chain) (state : State) (command : ℕ) → IsCertain chain command → IsSmall state → IsSure chain state command
sure_certain chain state command is small = record {
  branch = λ draw position. is.branch draw state position small;
  draws = is.draws;
}

pub by_coin : (chain : Chain) (state : State) (command threshold : ℕ) → IsSmall state → HasThresholds chain command (threshold ∷ []) → IsByDraw chain state command threshold 0 1
by_coin chain state command threshold small is = record {
  branch = λ draw position word. is.branch draw state position small word;
  draws = is.draws;
}

-- no draw is below 0
pub never_below : (chain : Chain) (state : State) (command threshold : ℕ) → threshold ≡ 0 → IsByDraw chain state command threshold 0 1 → IsByDraw chain state command threshold 1 1
never_below chain state command threshold none is = record {
  branch = λ draw position word.
      is.branch draw position word
      ∙ ap (λ b. Ok (if b then 0 else 1)) (le-ltb (draw position) threshold (omega (arith, none)))
      ∙ ap Ok (sym (either_way (nat_lt (draw position) threshold) 1));
  draws = is.draws;
}

-- the branch by weights that say a share
by_part : (chain : Chain) (draw : ℕ → ℕ) (state : State) (position command : ℕ) (weights : List Fraction) (share whole : ℕ) → IsShare weights share whole
    → weights_of state command (arms_of chain command) ≡ Ok weights → draw position < 2 ^ 64
    → branch_of chain draw state position command ≡ Ok (if nat_lt (pick_of (draw position) whole) share then 0 else 1)
by_part chain draw state position command weights share whole is read word =
    branch_weighed chain draw state position command
    ∙ ap (λ (r : Result (List Fraction) TraceFault). r >>= weighed_branch draw position command) read
    ∙ is.branch draw position command (pick_within (draw position) whole word is.some)

two_draws : (chain : Chain) (state : State) (command : ℕ) (weights : List Fraction) (share whole : ℕ) → IsShare weights share whole
    → weights_of state command (arms_of chain command) ≡ Ok weights → draws_for (length (arms_of chain command)) ≡ 1
two_draws chain state command weights share whole is read =
    ap draws_for (sym (weights_long state command (arms_of chain command) weights read) ∙ is.two)

-- where it is a part of the whole, the first draw of the next part is the threshold
pub by_first_draw : Law → (chain : Chain) (state : State) (command : ℕ) (weights : List Fraction) (share whole threshold : ℕ) → IsShare weights share whole
    → weights_of state command (arms_of chain command) ≡ Ok weights → threshold ≡ first_draw share whole → IsByDraw chain state command threshold 0 1
by_first_draw law chain state command weights share whole threshold is read first = record {
  branch = λ draw position word.
      by_part chain draw state position command weights share whole is read word
      ∙ ap (λ b. Ok (if b then 0 else 1)) (picks_below law (draw position) share whole is.some ∙ ap (nat_lt (draw position)) (sym first));
  draws = two_draws chain state command weights share whole is read;
}

-- where it is all, the second branch is never taken
pub by_all : (chain : Chain) (state : State) (command : ℕ) (weights : List Fraction) (share whole : ℕ) → IsShare weights share whole
    → weights_of state command (arms_of chain command) ≡ Ok weights → whole ≤ share → IsByDraw chain state command 0 0 0
by_all chain state command weights share whole is read all = record {
  branch = λ draw position word.
      by_part chain draw state position command weights share whole is read word
      ∙ ap (λ b. Ok (if b then 0 else 1))
      (lt-ltb (pick_of (draw position) whole) share (let below : pick_of (draw position) whole < whole = pick_within (draw position) whole word is.some in omega (arith, below, all)))
      ∙ ap Ok (sym (either_way (nat_lt (draw position) 0) 0));
  draws = two_draws chain state command weights share whole is read;
}

-- one branch whose weight is 1 is sure
pub sure_alone : (chain : Chain) (state : State) (command : ℕ) (weights : List Fraction) (den : ℕ) → weights_of state command (arms_of chain command) ≡ Ok weights
    → length weights ≡ 1 → (denominator_of weights ≤ 2 ^ 48) × (den ≡ denominator_of weights) → (sum (numerators_over den weights) == den) ≡ true → IsSure chain state command
sure_alone chain state command weights den read one common whole = record {
  branch = λ draw position.
      branch_picked chain draw state position command weights read common.0 (ap (λ d. sum (numerators_over d weights) == d) (sym common.1) ∙ whole)
      ∙ ap (λ n. Ok (if is_drawn n then first_above (pick_of (draw position) (denominator_of weights)) (running_sums 0 (numerators_of weights)) else 0)) one;
  draws = ap draws_for (sym (weights_long state command (arms_of chain command) weights read) ∙ one);
}
