-- What is known of the choices of a state before anything is drawn.
use Rattle.std.specs.Prelude.{◌≡◌, ℕ, ◌+◌, ◌*◌, ◌<◌, ◌≤◌, ◌^◌, List, [], Ok, length, take, drop}
use Rattle.chain_model.specs.declared.chain.Chain.{Chain}
use Rattle.chain_model.specs.States.{State}
use Rattle.chain_model.specs.Choices.{choices_of}
use Rattle.chain_model.specs.Step.{draws_for}
use Rattle.trace_meaning.specs.Stepped.{choice_number}
use Rattle.successors.specs.declared.choosing.Choices.{Choices}
use Rattle.successors.specs.declared.choosing.Choices.TheVariants as c
use Rattle.successors.specs.Moves.{commands_taken}

-- the commands of the choice of a number, where choices of so many commands each stand one after another
abbrev pub part_of : ℕ → List ℕ → ℕ → List ℕ
part_of size commands number = take size (drop (number * size) commands)

-- a state has so many choices, of equally many commands each, which stand one after another: whatever is drawn and wherever
-- the draws stand, a step that draws a choice's number takes its commands
pub record AreKnownChoices (chain : Chain) (state : State) (count size : ℕ) (commands : List ℕ) : Type 0 where
  pub some : 0 < count
  pub few : count ≤ 2 ^ 48
  pub long : length commands ≡ count * size
  pub taken : (draw : ℕ → ℕ) (position number : ℕ) → number < count → choice_number (draw position) count ≡ number
      → commands_taken chain draw state position ≡ Ok (part_of size commands number, position + draws_for count)

-- a state has one choice, of these commands
abbrev pub IsOnlyChoice : Chain → State → List ℕ → Type 0
IsOnlyChoice chain state commands = AreKnownChoices chain state 1 (length commands) commands

-- what is told of the choices of a state is so, where so many of these commands are those of the one
abbrev pub AreChoices : Chain → State → Choices → List ℕ → Type 0
AreChoices chain state c.Nothing chosen = choices_of chain state ≡ Ok []
AreChoices chain state (c.One size) chosen = IsOnlyChoice chain state (take size chosen)
AreChoices chain state c.Several chosen = Unit

-- the commands of the one choice are at most so many
abbrev pub IsWithin : Choices → ℕ → Type 0
IsWithin c.Nothing most = Unit
IsWithin (c.One size) most = size ≤ most
IsWithin c.Several most = Unit
