-- The one choice of a state, where one command alone is enabled and the chain has no actions.
use Rattle.std.proofs.Common.{◌≡◌, ℕ, List, [], ◌∷◌, ◌++◌, map, true, cond, refl, ap, ◌∙◌, subst, arith, Result, Ok}
use Rattle.std.specs.Prelude.{filter, flat_map}
use Rattle.std.specs.List.{enumerate_from}
use Rattle.chain_model.specs.declared.outcome.TraceFault.{TraceFault}
use Rattle.chain_model.specs.declared.chain.Chain.{Chain}
use Rattle.chain_model.specs.declared.chain.Act.{Act}
use Rattle.chain_model.specs.declared.chain.Action.{Action}
use Rattle.chain_model.specs.Chain.{is_unlabelled}
use Rattle.chain_model.specs.Results.{◌>>=◌}
use Rattle.chain_model.specs.States.{State}
use Rattle.chain_model.specs.Choices.{command_is, single_choice, action_choices, choices_of, choices_among}
use Rattle.successors.specs.declared.found.Found.{Found}
use Rattle.successors.specs.declared.found.Found.TheVariants.{One}
use Rattle.successors.specs.Enabled.{numbers_with, AreGuards, IsFound}
use Rattle.successors.specs.Moves.{commands_taken}
use Rattle.successors.proofs.MoveLemmas.{chosen, some_made}

-- what the commands without an action and the actions give, where there are no actions and one command, which has none
of_one : (acts : List Act) (actions : List Action) (n : ℕ) → actions ≡ [] → command_is is_unlabelled acts n ≡ true
    → map single_choice (filter (command_is is_unlabelled acts) (n ∷ []))
    ++ flat_map (λ (action : ℕ × Action). action_choices acts (n ∷ []) action.0 action.1.takes) (enumerate_from 0 actions) ≡ single_choice n ∷ []
of_one acts actions n none alone =
    ap (λ (those : List Action). map single_choice (filter (command_is is_unlabelled acts) (n ∷ []))
    ++ flat_map (λ (action : ℕ × Action). action_choices acts (n ∷ []) action.0 action.1.takes) (enumerate_from 0 those)) none
    ∙ ap (λ b. map single_choice (cond b (n ∷ []) []) ++ []) alone

-- the choices are the one of the command that was found
pub sole_made : (chain : Chain) (state : State) (lane n : ℕ) (bytes : List ℕ) (found : Found) → AreGuards chain state lane bytes → IsFound found (numbers_with lane 0 bytes)
    → chain.actions ≡ [] → found ≡ One n → command_is is_unlabelled chain.commands n ≡ true → choices_of chain state ≡ Ok (single_choice n ∷ [])
unfolding choices_of
sole_made chain state lane n bytes found guards is none one alone =
    let numbers : numbers_with lane 0 bytes ≡ n ∷ [] = subst (λ (f : Found). IsFound f (numbers_with lane 0 bytes)) one is in
    ap (λ (r : Result (List ℕ) TraceFault). r >>= λ enabled. Ok (choices_among chain enabled)) (guards.enabled ∙ ap Ok numbers)
    ∙ ap Ok (of_one chain.commands chain.actions n none alone)

-- a step takes it without a draw
pub sole_taken : (chain : Chain) (draw : ℕ → ℕ) (state : State) (position n : ℕ) → choices_of chain state ≡ Ok (single_choice n ∷ [])
    → commands_taken chain draw state position ≡ Ok (n ∷ [], position)
sole_taken chain draw state position n made =
    chosen chain draw state position 1 0 position (single_choice n ∷ []) ((n ∷ []) ∷ []) (n ∷ []) made refl refl (omega arith) refl refl (omega arith)

-- so the state has a choice
pub sole_is_some : (chain : Chain) (state : State) (n : ℕ) → choices_of chain state ≡ Ok (single_choice n ∷ []) → ¬ (choices_of chain state ≡ Ok [])
sole_is_some chain state n made = some_made chain state (single_choice n ∷ []) made (omega arith)
