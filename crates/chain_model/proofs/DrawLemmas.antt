-- How many commands a choice has, and how many draws a step takes.
use Rattle.std.proofs.Common.{◌≡◌, ◌==◌, ◌||◌, ℕ, ◌+◌, ◌-◌, ◌<◌, ◌≤◌, zero, suc, List, [], ◌∷◌, Bool, true, false, All, length, get_or, map, refl, sym, ap, ◌∙◌, subst, inl, inr, arith}
use Rattle.std.specs.Prelude.{◌⊎◌, ℤ, nat_lt, sum, Some, None, Ok, Result, IfOk, slice_get, unwrap_or, if◌then◌else◌}
use Rattle.std.specs.List.{AllPairs, Contains, list_any}
use Rattle.std.specs.Option.{option_map_or}
use Rattle.std.proofs.lemmas.Bool.{cases_Bool, cases_lt, cond_both, and_parts, eq-eqb, eqb-true}
use Rattle.std.proofs.lemmas.List.Elements.{All-head, All-tail, All-contains, Contains-get_or}
use Rattle.std.proofs.lemmas.List.Folds.{list_any_at}
use Rattle.std.proofs.lemmas.List.Sums.{sum_by-cons}
use Rattle.std.proofs.lemmas.Option.{slice_get_cases, slice_get_within, get_or_from_slice_get}
use Rattle.trace_streams.specs.Pick.{pick_of}
use Rattle.chain_model.specs.declared.outcome.TraceFault.{TraceFault}
use Rattle.chain_model.specs.declared.outcome.TraceFault.TheVariants.{Choices}
use Rattle.chain_model.specs.declared.chain.Act.{Act}
use Rattle.chain_model.specs.declared.chain.Action.{Action}
use Rattle.chain_model.specs.declared.chain.Chain.{Chain}
use Rattle.chain_model.specs.declared.steps.Choice.{Choice}
use Rattle.chain_model.specs.declared.steps.Taken.{Taken}
use Rattle.chain_model.specs.Limits.{most_modules, most_choices}
use Rattle.chain_model.specs.Chain.{is_part, IsAction, IsCommand}
use Rattle.chain_model.specs.States.{State}
use Rattle.chain_model.specs.Results.{◌>>=◌, ◌>>◌, refuse_if, each}
use Rattle.chain_model.specs.Choices.{choices_of, AreParts, IsChoice}
use Rattle.chain_model.specs.Choices.AreParts.{none, more}
use Rattle.chain_model.specs.Choices.IsChoice.{single, joint}
use Rattle.chain_model.specs.Step.{Configuration, no_choice, is_drawn, draws_for, command_draws, step_draws, choice_of, branches_of, assignment_of, all_sets, step_of}
use Rattle.chain_model.proofs.ChoiceLemmas.{choices_are_all}
use Rattle.chain_model.proofs.StepLemmas.{bind_parts, test_parts}

-- a command with an action is of a module that is there
part_within : (chain : Chain) (action owner : ℕ) (commands : List Act)
    → All (IsCommand chain.vars (length chain.actions) (length chain.modules)) commands
    → list_any (is_part action owner) commands ≡ true → owner < length chain.modules
part_within chain action owner [] each found = absurd (cc)
part_within chain action owner (act ∷ acts) each found =
    elim (cases_Bool (is_part action owner act)) [
      | inl part ↦
          let parts : (option_map_or (λ a. a == action) act.action false ≡ true) × ((act.module == owner) ≡ true) =
          and_parts (option_map_or (λ a. a == action) act.action false) (act.module == owner) part in
          let same : act.module ≡ owner = eqb-true act.module owner parts.1 in
          let command : IsCommand chain.vars (length chain.actions) (length chain.modules) act =
          All-head (IsCommand chain.vars (length chain.actions) (length chain.modules)) act acts each in
          omega (arith, command.owner, same)
      | inr other ↦
          part_within chain action owner acts (All-tail (IsCommand chain.vars (length chain.actions) (length chain.modules)) act acts each)
          (sym (ap (λ (b : Bool). b || list_any (is_part action owner) acts) other) ∙ found)
    ]

-- a number in a rising list is at least its index
index_below : (xs : List ℕ) → AllPairs ◌<◌ xs → (i d : ℕ) → i < length xs → i ≤ get_or xs i d
index_below xs rising zero d within = omega arith
index_below xs rising (suc i) d within =
    let before : i ≤ get_or xs i d = index_below xs rising i d (omega (arith, within)) in
    omega (arith, before, rising i (suc i) d (omega arith) within)

-- an action takes at most as many modules as there are
takes_few : (chain : Chain) (number : ℕ) (action : Action) → IsAction chain.commands number action → length action.takes ≤ most_modules
takes_few chain number action fits =
    let last : ℕ = length action.takes - 1 in
    let within : last < length action.takes = omega (arith, fits.some) in
    let among : list_any (λ n. n == get_or action.takes last 0) action.takes ≡ true =
    list_any_at (λ n. n == get_or action.takes last 0) action.takes last 0 within (eq-eqb (get_or action.takes last 0) (get_or action.takes last 0) refl) in
    let there : get_or action.takes last 0 < length chain.modules =
    part_within chain number (get_or action.takes last 0) chain.commands chain.well_formed.each_command
    (sym (fits.exact (get_or action.takes last 0)) ∙ among) in
    omega (arith, index_below action.takes fits.rising last 0 within, there, chain.well_formed.few_modules)

-- there is one part for each module
parts_long : (chain : Chain) (state : State) (action : ℕ) (owners commands : List ℕ) → AreParts chain state action owners commands
    → length commands ≡ length owners
parts_long chain state action _ _ none = refl
parts_long chain state action _ _ (more {owners = owners} {numbers = numbers} able rest) = ap suc (parts_long chain state action owners numbers rest)

-- a choice has at most as many commands as there may be modules
choice_few : (chain : Chain) (state : State) (choice : Choice) → IsChoice chain state choice → length choice.commands ≤ most_modules
choice_few chain state _ (single able) = omega arith
choice_few chain state _ (joint {number = number} {action = action} {commands = commands} there parts) =
    let within : number < length chain.actions = slice_get_within chain.actions number action there in
    let fits : IsAction chain.commands number action =
    subst (IsAction chain.commands number) (get_or_from_slice_get chain.actions number action action there)
    (chain.well_formed.each_action.each number action within) in
    omega (arith, takes_few chain number action fits, parts_long chain state number action.takes commands parts)

pub choices_few : (chain : Chain) (state : State) (choices : List Choice) → choices_of chain state ≡ Ok choices
    → (choice : Choice) → Contains choices choice → length choice.commands ≤ most_modules
choices_few chain state choices made choice within =
    choice_few chain state choice ((choices_are_all chain state choices made choice).0 within)

-- the choice that is taken is one of them, or none
taken_few : (chain : Chain) (state : State) (choices : List Choice) → choices_of chain state ≡ Ok choices
    → (n : ℕ) → length (unwrap_or (slice_get choices n) no_choice).commands ≤ most_modules
taken_few chain state choices made n =
    elim (slice_get_cases choices n).1 [
      | inl there ↦
          let within : Contains choices there.0 =
          (n, there.1, get_or_from_slice_get choices n there.0 there.0 there.2) in
          subst (λ o. length (unwrap_or o no_choice).commands ≤ most_modules) (sym there.2)
          (choices_few chain state choices made there.0 within)
      | inr past ↦ subst (λ o. length (unwrap_or o no_choice).commands ≤ most_modules) (sym past.1) (omega arith)
    ]

-- one of so many takes at most one draw
draws_for-le : (count : ℕ) → draws_for count ≤ 1
draws_for-le count = cond_both (is_drawn count) 1 0 (λ n. n ≤ 1) (λ _. omega arith) (λ _. omega arith)

-- so the commands of a choice take at most as many draws as they are
command_draws-le : (chain : Chain) (commands : List ℕ) → sum (map (command_draws chain) commands) ≤ length commands
command_draws-le chain [] = omega arith
command_draws-le chain (command ∷ commands) =
    omega (
      arith,
      sum_by-cons (λ (n : ℕ). n) (command_draws chain command) (map (command_draws chain) commands),
      draws_for-le,
      command_draws-le chain commands,
    )

-- a step takes at most 65 draws
pub step_draws_few : (chain : Chain) (draw : ℕ → ℕ) (from : Configuration)
    → IfOk (step_of chain draw from) (λ step. step.0.position ≤ from.position + (most_modules + 1))
unfolding step_of
step_draws_few chain draw from =
    bind_parts (choices_of chain from.state) _ (λ step. step.0.position ≤ from.position + (most_modules + 1))
    (λ choices made. test_parts (nat_lt most_choices (length choices)) Choices _ (λ step. step.0.position ≤ from.position + (most_modules + 1))
    (λ _. bind_parts (branches_of chain draw from.state (from.position + draws_for (length choices)) (choice_of draw from.position choices).commands) _
    (λ step. step.0.position ≤ from.position + (most_modules + 1))
    (λ branches _. bind_parts (each (assignment_of chain from.state) (all_sets chain (choice_of draw from.position choices).commands branches)) _
    (λ step. step.0.position ≤ from.position + (most_modules + 1))
    (λ assigned _. omega (
      arith,
      draws_for-le (length choices),
      command_draws-le chain (choice_of draw from.position choices).commands,
      taken_few chain from.state choices made (if is_drawn (length choices) then pick_of (draw from.position) (length choices) else 0),
    )))))
