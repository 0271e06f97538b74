-- The branch of a command from its weights, and how many branches there may be.
use Rattle.std.proofs.Common.{◌≡◌, ◌==◌, ℕ, suc, ◌≤◌, ◌<◌, ◌^◌, List, [], ◌∷◌, length, Bool, true, false, refl, sym, ap, ◌∙◌, subst, inl, inr, arith, nat_lt}
use Rattle.std.specs.Prelude.{not, Result, Ok, Err, sum}
use Rattle.std.specs.Option.{option_map_or}
use Rattle.std.proofs.lemmas.Bool.{lt-ltb, le-ltb}
use Rattle.std.proofs.lemmas.List.Elements.{All-get_or}
use Rattle.std.proofs.lemmas.Option.{slice_get_cases, slice_get_within, get_or_from_slice_get}
use Rattle.smc_num.specs.Fraction.{Fraction}
use Rattle.chain_model.specs.declared.outcome.TraceFault.{TraceFault}
use Rattle.chain_model.specs.declared.outcome.TraceFault.TheVariants.{Weights, Denominator}
use Rattle.chain_model.specs.declared.chain.Act.{Act}
use Rattle.chain_model.specs.declared.chain.Arm.{Arm}
use Rattle.chain_model.specs.declared.chain.Chain.{Chain}
use Rattle.chain_model.specs.Limits.{most_weight_denominator}
use Rattle.chain_model.specs.Chain.{IsCommand}
use Rattle.chain_model.specs.Results.{◌>>=◌, ◌>>◌, refuse_if, each}
use Rattle.chain_model.specs.States.{State}
use Rattle.chain_model.specs.Step.{arms_of, weights_of, denominator_of, numerators_of, branch_number, branch_of}
use Rattle.trace_meaning.specs.declared.fault.StepFault.{StepFault}
use Rattle.trace_meaning.specs.declared.fault.StepFault.TheVariants.{Trace, OutOfMemory}
use Rattle.trace_meaning.specs.Gives.{Gives}
use Rattle.trace_meaning.specs.Weights.{numerators_over}

-- what a command takes by its weights
by_weights : (ℕ → ℕ) → ℕ → ℕ → Result (List Fraction) TraceFault → Result ℕ TraceFault
by_weights draw position command read =
    read >>= λ weights. refuse_if (nat_lt most_weight_denominator (denominator_of weights)) (Denominator command)
    >> (refuse_if (not (sum (numerators_of weights) == denominator_of weights)) (Weights command) >> Ok (branch_number draw position weights))

-- the branch of a command is what it takes by its weights
branch_is : (chain : Chain) (draw : ℕ → ℕ) (state : State) (position command : ℕ) (read : Result (List Fraction) TraceFault)
    → weights_of state command (arms_of chain command) ≡ read → branch_of chain draw state position command ≡ by_weights draw position command read
unfolding branch_of by_weights
branch_is chain draw state position command read is = ap (by_weights draw position command) is

-- weights that fault are the command's fault
pub branch_err : (chain : Chain) (draw : ℕ → ℕ) (state : State) (position command : ℕ) (fault : StepFault)
    → Gives {X = List Fraction} (Err fault) (weights_of state command (arms_of chain command))
    → Gives {X = ℕ} (Err fault) (branch_of chain draw state position command)
unfolding by_weights
branch_err chain draw state position command (Trace fault) is = branch_is chain draw state position command (Err fault) is
branch_err chain draw state position command (OutOfMemory error) is = tt

-- a denominator that is too large is a fault
pub branch_denominator : (chain : Chain) (draw : ℕ → ℕ) (state : State) (position command : ℕ) (weights : List Fraction)
    → weights_of state command (arms_of chain command) ≡ Ok weights → ¬ (denominator_of weights ≤ 2 ^ 48)
    → branch_of chain draw state position command ≡ Err (Denominator command)
unfolding by_weights
branch_denominator chain draw state position command weights is large =
    branch_is chain draw state position command (Ok weights) is
    ∙ ap (λ b. refuse_if b (Denominator command) >> (refuse_if (not (sum (numerators_of weights) == denominator_of weights)) (Weights command) >> Ok (branch_number draw position weights)))
    (lt-ltb most_weight_denominator (denominator_of weights) (omega (arith, large)))

-- other weights are tested for their sum
by_sum : (chain : Chain) (draw : ℕ → ℕ) (state : State) (position command : ℕ) (weights : List Fraction) (adds : Bool)
    → weights_of state command (arms_of chain command) ≡ Ok weights → denominator_of weights ≤ 2 ^ 48
    → (sum (numerators_of weights) == denominator_of weights) ≡ adds
    → branch_of chain draw state position command ≡ (refuse_if (not adds) (Weights command) >> Ok (branch_number draw position weights))
unfolding by_weights
by_sum chain draw state position command weights adds is few adds_is =
    branch_is chain draw state position command (Ok weights) is
    ∙ ap (λ b. refuse_if b (Denominator command) >> (refuse_if (not (sum (numerators_of weights) == denominator_of weights)) (Weights command) >> Ok (branch_number draw position weights)))
    (le-ltb most_weight_denominator (denominator_of weights) (omega (arith, few)))
    ∙ ap (λ b. refuse_if (not b) (Weights command) >> Ok (branch_number draw position weights)) adds_is

-- the test of the sum is one of the weights over their denominator
pub sum_tested : (weights first second : List Fraction) (den : ℕ) (tested : Bool) → first ≡ weights → second ≡ weights
    → (denominator_of first ≤ 2 ^ 48) × (den ≡ denominator_of first) → tested ≡ (sum (numerators_over den second) == den)
    → (sum (numerators_of weights) == denominator_of weights) ≡ tested
sum_tested weights first second den tested first_is second_is common is =
    sym (is ∙ ap (λ (ws : List Fraction). sum (numerators_over den ws) == den) second_is
    ∙ ap (λ (d : ℕ). sum (numerators_over d weights) == d) (common.1 ∙ ap denominator_of first_is))

-- and so is that of the denominator
pub few_tested : (weights first : List Fraction) (den : ℕ) → first ≡ weights → (denominator_of first ≤ 2 ^ 48) × (den ≡ denominator_of first)
    → denominator_of weights ≤ 2 ^ 48
few_tested weights first den is common = subst (λ (ws : List Fraction). denominator_of ws ≤ 2 ^ 48) is common.0

-- weights that don't add up are a fault
pub branch_weights : (chain : Chain) (draw : ℕ → ℕ) (state : State) (position command : ℕ) (weights : List Fraction)
    → weights_of state command (arms_of chain command) ≡ Ok weights → denominator_of weights ≤ 2 ^ 48
    → (sum (numerators_of weights) == denominator_of weights) ≡ false → branch_of chain draw state position command ≡ Err (Weights command)
branch_weights chain draw state position command weights is few adds = by_sum chain draw state position command weights false is few adds

-- others pick a branch
pub branch_picked : (chain : Chain) (draw : ℕ → ℕ) (state : State) (position command : ℕ) (weights : List Fraction)
    → weights_of state command (arms_of chain command) ≡ Ok weights → denominator_of weights ≤ 2 ^ 48
    → (sum (numerators_of weights) == denominator_of weights) ≡ true
    → branch_of chain draw state position command ≡ Ok (branch_number draw position weights)
branch_picked chain draw state position command weights is few adds = by_sum chain draw state position command weights true is few adds

-- what comes of each item is as long as the list
each_next : {A B : Type 0} (f : A → Result B TraceFault) (n : ℕ) (one : Result B TraceFault) (others : Result (List B) TraceFault) (ys : List B)
    → (one >>= λ y. others >>= λ rest. Ok (y ∷ rest)) ≡ Ok ys → ((zs : List B) → others ≡ Ok zs → length zs ≡ n) → length ys ≡ suc n
each_next f n (Err fault) others ys is long = absurd (cc)
each_next f n (Ok y) (Err fault) ys is long = absurd (cc)
each_next f n (Ok y) (Ok rest) ys is long =
    let same : y ∷ rest ≡ ys = cc in
    sym (ap length same) ∙ ap suc (long rest refl)

-- for a whole list
each_long : {A B : Type 0} (f : A → Result B TraceFault) (xs : List A) (ys : List B) → each f xs ≡ Ok ys → length ys ≡ length xs
each_long f [] ys is = let same : [] ≡ ys = cc in sym (ap length same)
each_long f (x ∷ xs) ys is = each_next f (length xs) (f x) (each f xs) ys is (each_long f xs)

-- a command has as many weights as branches
pub weights_long : (state : State) (command : ℕ) (arms : List Arm) (weights : List Fraction) → weights_of state command arms ≡ Ok weights
    → length weights ≡ length arms
weights_long state command arms weights is = each_long _ arms weights is

-- and a command has at most 64
pub arms_few : (chain : Chain) (command : ℕ) → length (arms_of chain command) ≤ 64
arms_few chain command =
    elim (slice_get_cases chain.commands command).1 [
      | inl there ↦
          let within : command < length chain.commands = slice_get_within chain.commands command there.0 there.2 in
          let fits : IsCommand chain.vars (length chain.actions) (length chain.modules) there.0 =
          subst (IsCommand chain.vars (length chain.actions) (length chain.modules)) (get_or_from_slice_get chain.commands command there.0 there.0 there.2)
          (All-get_or (IsCommand chain.vars (length chain.actions) (length chain.modules)) chain.commands command there.0 within chain.well_formed.each_command) in
          subst (λ o. length (option_map_or (λ (act : Act). act.branches) o []) ≤ 64) (sym there.2) (omega (arith, fits.few))
      | inr past ↦ subst (λ o. length (option_map_or (λ (act : Act). act.branches) o []) ≤ 64) (sym past.1) (omega arith)
    ]
