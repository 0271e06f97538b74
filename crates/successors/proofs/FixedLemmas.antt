-- Weights that are the same in every state: thresholds of draws.
use Rattle.std.proofs.Common.{◌≡◌, ◌==◌, ℕ, suc, ◌+◌, ◌*◌, ◌/◌, ◌<◌, ◌≤◌, ◌^◌, ◌↔◌, List, [], ◌∷◌, ◌++◌, length, get_or, take, drop, map, true, refl, sym, ap, ◌∙◌, inl, inr, arith, nat_le, append-nil, Ok, nat_lt}
use Rattle.std.specs.Prelude.{sum, unsigned_abs, if◌then◌else◌}
use Rattle.std.proofs.Math.Nat.{div-eq_of_lt}
use Rattle.std.proofs.lemmas.Nat.{div_below}
use Rattle.std.proofs.lemmas.Bool.{cases_lt, lt-ltb, le-ltb, le-leb, eqb-true}
use Rattle.std.proofs.lemmas.List.{at_drop_more, drop_all, take_more}
use Rattle.smc_num.specs.Fraction.{Fraction}
use Rattle.trace_streams.specs.Pick.{pick_of, first_draw, IsTaken}
use Rattle.chain_model.specs.declared.chain.Chain.{Chain}
use Rattle.chain_model.specs.Results.{◌>>=◌}
use Rattle.chain_model.specs.States.{State}
use Rattle.chain_model.specs.Step.{arms_of, denominator_of, numerators_of, branch_number, branch_of, draws_for, is_drawn, first_above, running_sums}
use Rattle.guard_code.specs.declared.nodes.Node.{Node}
use Rattle.guard_code.specs.Tests.{IsSmall}
use Rattle.trace_meaning.specs.Weights.{numerators_over}
use Rattle.trace_meaning.proofs.BranchLemmas.{branch_picked, weights_long}
use Rattle.successors.specs.Weighing.{node_weight, node_weights, IsFixedWeight, AreFixedWeights, HasWeights, IsCertain, HasThresholds}
use Rattle.successors.proofs.SideLemmas.{each_push}

-- one weight more
pub fixed_more : (nodes : List Node) (i : ℕ) (node : Node) (weights new : List Fraction) (weight : Fraction) → i < length nodes → node ≡ get_or nodes i node
    → AreFixedWeights (take i nodes) weights → IsFixedWeight node weight → new ≡ weights ++ (weight ∷ []) → AreFixedWeights (take (i + 1) nodes) new
fixed_more nodes i node weights new weight lt is so one more = record {
  same = λ state command.
      ap (node_weights state command) (take_more nodes i node lt ∙ ap (λ (n : Node). take i nodes ++ (n ∷ [])) (sym is))
      ∙ each_push (node_weight state command) (take i nodes) node
      ∙ (λ j. so.same state command j >>= λ ys. one.same state command j >>= λ y. Ok (ys ++ (y ∷ [])))
      ∙ ap Ok (sym more);
}

-- the law on branch intervals
abbrev pub Law : Type 0
Law = (before through parts w : ℕ) → 1 ≤ parts → IsTaken before through parts w ↔ ((first_draw before parts ≤ w) × (w < first_draw through parts))

-- nothing is picked before the first draw
first_none : (parts : ℕ) → 0 < parts → first_draw 0 parts ≡ 0
first_none parts some = div-eq_of_lt (omega (arith, some))

-- a pick is below a part where the draw is below the part's first
pub picks_below : Law → (w part parts : ℕ) → 0 < parts → nat_lt (pick_of w parts) part ≡ nat_lt w (first_draw part parts)
picks_below law w part parts some =
    let both = law 0 part parts w some in
    elim (cases_lt (pick_of w parts) part) [
      | inl below ↦ lt-ltb (pick_of w parts) part below ∙ sym (lt-ltb w (first_draw part parts) (both.0 (omega arith, below)).1)
      | inr past ↦
          le-ltb (pick_of w parts) part past
          ∙ sym (elim (cases_lt w (first_draw part parts)) [
            | inl less ↦ absurd (omega (arith, past, (both.1 (omega (arith, first_none parts some), less)).1))
            | inr more ↦ le-ltb w (first_draw part parts) more
          ])
    ]

-- so sums are exceeded by a pick where their first draws are by the draw
above_draws : Law → (w parts : ℕ) (sums : List ℕ) → 0 < parts → first_above (pick_of w parts) sums ≡ first_above w (map (λ s. first_draw s parts) sums)
above_draws law w parts [] some = refl
above_draws law w parts (s ∷ sums) some = λ i. if picks_below law w s parts some i then 0 else suc (above_draws law w parts sums some i)

-- what stands after a number that exceeds another doesn't count
above_cut : (w : ℕ) (xs : List ℕ) (t : ℕ) (ys : List ℕ) → w < t → first_above w (xs ++ (t ∷ ys)) ≡ first_above w xs
above_cut w [] t ys less = ap (λ b. if b then 0 else suc (first_above w ys)) (lt-ltb w t less)
above_cut w (x ∷ xs) t ys less = ap (λ n. if nat_lt w x then 0 else suc n) (above_cut w xs t ys less)

-- the thresholds so far, and those of the other weights
pub record Marked (weights : List Fraction) (den : ℕ) (thresholds : List ℕ) (through i : ℕ) : Type 0 where
  pub same : thresholds ++ map (λ s. first_draw s den) (running_sums through (numerators_over den (drop i weights)))
      ≡ map (λ s. first_draw s den) (running_sums 0 (numerators_over den weights))
  pub few : through < den

-- the weights from one on are this one and the others
marked_at : (weights : List Fraction) (den : ℕ) (thresholds : List ℕ) (through i n : ℕ) (weight : Fraction) → i < length weights → weight ≡ get_or weights i weight
    → n ≡ unsigned_abs weight.num * (den / weight.den) → Marked weights den thresholds through i
    → thresholds ++ (first_draw (through + n) den ∷ map (λ s. first_draw s den) (running_sums (through + n) (numerators_over den (drop (i + 1) weights))))
    ≡ map (λ s. first_draw s den) (running_sums 0 (numerators_over den weights))
marked_at weights den thresholds through i n weight lt is counts so =
    ap (λ k. thresholds ++ (first_draw (through + k) den ∷ map (λ s. first_draw s den) (running_sums (through + k) (numerators_over den (drop (i + 1) weights))))) counts
    ∙ ap (λ (x : Fraction). thresholds ++ map (λ s. first_draw s den) (running_sums through (numerators_over den (x ∷ drop (i + 1) weights)))) is
    ∙ sym (at_drop_more (λ (ws : List Fraction). thresholds ++ map (λ s. first_draw s den) (running_sums through (numerators_over den ws))) weights i weight lt)
    ∙ so.same

-- a product is below another where a factor is
products : (a b c : ℕ) → a < b → 0 < c → a * c < b * c
products a b c less some = let more : a * c + c ≤ b * c = grind (arith, less) in omega (arith, more, some)

-- a draw picks a part that is there
pub pick_within : (w den : ℕ) → w < 2 ^ 64 → 0 < den → pick_of w den < den
pick_within w den word some = div_below (w * den) (2 ^ 64) den (omega arith) (let less : w * den < 2 ^ 64 * den = products w (2 ^ 64) den word some in omega (arith, less))

-- where the weights so far take all, the thresholds so far are enough
pub marked_whole : Law → (weights : List Fraction) (den : ℕ) (thresholds : List ℕ) (through i n : ℕ) (weight : Fraction) → i < length weights → weight ≡ get_or weights i weight
    → n ≡ unsigned_abs weight.num * (den / weight.den) → Marked weights den thresholds through i → den ≤ through + n → 0 < den → (w : ℕ) → w < 2 ^ 64
    → first_above w thresholds ≡ first_above (pick_of w den) (running_sums 0 (numerators_over den weights))
marked_whole law weights den thresholds through i n weight lt is counts so full some w word =
    let past : pick_of w den < through + n = omega (arith, pick_within w den word some, full) in
    let less : w < first_draw (through + n) den = ((law 0 (through + n) den w some).0 (omega arith, past)).1 in
    sym (above_cut w thresholds (first_draw (through + n) den) _ less)
    ∙ ap (first_above w) (marked_at weights den thresholds through i n weight lt is counts so)
    ∙ sym (above_draws law w den (running_sums 0 (numerators_over den weights)) some)

-- and so they are where no weight is left
pub marked_all : Law → (weights : List Fraction) (den : ℕ) (thresholds : List ℕ) (through i : ℕ) → length weights ≤ i → Marked weights den thresholds through i → 0 < den → (w : ℕ)
    → first_above w thresholds ≡ first_above (pick_of w den) (running_sums 0 (numerators_over den weights))
marked_all law weights den thresholds through i past so some w =
    ap (first_above w)
    (sym (append-nil thresholds)
    ∙ sym (ap (λ (ws : List Fraction). thresholds ++ map (λ s. first_draw s den) (running_sums through (numerators_over den ws))) (drop_all i weights past))
    ∙ so.same)
    ∙ sym (above_draws law w den (running_sums 0 (numerators_over den weights)) some)

-- a state without values is within the limits
small_nothing : IsSmall []
small_nothing = λ v. omega arith

-- what fixed weights say of a command
pub record Says (chain : Chain) (command : ℕ) (weights : List Fraction) : Type 0 where
  pub picked : (draw : ℕ → ℕ) (state : State) (position : ℕ) → IsSmall state → branch_of chain draw state position command ≡ Ok (branch_number draw position weights)
  pub long : length (arms_of chain command) ≡ length weights

says : (chain : Chain) (command : ℕ) (nodes : List Node) (weights : List Fraction) (den : ℕ) → HasWeights chain command nodes → AreFixedWeights nodes weights
    → den ≡ denominator_of weights → den ≤ 2 ^ 48 → (sum (numerators_over den weights) == den) ≡ true → Says chain command weights
says chain command nodes weights den has fixed common few whole = record {
  picked = λ draw state position small.
      branch_picked chain draw state position command weights (has.weights state small ∙ fixed.same state command) (omega (arith, common, few))
      (ap (λ d. sum (numerators_over d weights) == d) (sym common) ∙ whole);
  long = sym (weights_long [] command (arms_of chain command) weights (has.weights [] small_nothing ∙ fixed.same [] command));
}

-- a command of one branch takes it
pub certain : (chain : Chain) (command : ℕ) (nodes : List Node) (weights : List Fraction) (den : ℕ) → HasWeights chain command nodes → AreFixedWeights nodes weights
    → den ≡ denominator_of weights → den ≤ 2 ^ 48 → (sum (numerators_over den weights) == den) ≡ true → length weights ≡ 1 → IsCertain chain command
certain chain command nodes weights den has fixed common few whole one =
    let known = says chain command nodes weights den has fixed common few whole in
    record {
      branch = λ draw state position small.
          known.picked draw state position small
          ∙ ap (λ n. Ok (if is_drawn n then first_above (pick_of (draw position) (denominator_of weights)) (running_sums 0 (numerators_of weights)) else 0)) one;
      draws = ap draws_for (known.long ∙ one);
    }

-- weights that add up to something are some
some_weights : (weights : List Fraction) (den : ℕ) → 0 < den → (sum (numerators_over den weights) == den) ≡ true → 0 < length weights
some_weights [] den some whole = omega (arith, some, eqb-true 0 den whole)
some_weights (weight ∷ weights) den some whole = omega arith

-- a command of several branches takes the one that the thresholds say
pub drawn : (chain : Chain) (command : ℕ) (nodes : List Node) (weights : List Fraction) (den : ℕ) (thresholds : List ℕ) → HasWeights chain command nodes → AreFixedWeights nodes weights
    → den ≡ denominator_of weights → 0 < den → den ≤ 2 ^ 48 → (sum (numerators_over den weights) == den) ≡ true → ¬ (length weights ≡ 1)
    → ((w : ℕ) → w < 2 ^ 64 → first_above w thresholds ≡ first_above (pick_of w den) (running_sums 0 (numerators_over den weights))) → HasThresholds chain command thresholds
drawn chain command nodes weights den thresholds has fixed common some few whole several marked =
    let known = says chain command nodes weights den has fixed common few whole in
    let two : nat_le 2 (length weights) ≡ true = le-leb 2 (length weights) (omega (arith, some_weights weights den some whole, several)) in
    record {
      branch = λ draw state position small word.
          known.picked draw state position small
          ∙ ap (λ b. Ok (if b then first_above (pick_of (draw position) (denominator_of weights)) (running_sums 0 (numerators_of weights)) else 0)) two
          ∙ ap (λ d. Ok (first_above (pick_of (draw position) d) (running_sums 0 (numerators_over d weights)))) (sym common)
          ∙ ap Ok (sym (marked (draw position) word));
      draws = ap draws_for known.long ∙ ap (λ b. if b then 1 else 0) two;
    }
