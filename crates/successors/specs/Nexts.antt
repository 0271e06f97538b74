-- What is known of the states that a step from a state may lead to, whatever is drawn and wherever the draws stand.
use Rattle.std.specs.Prelude.{◌≡◌, ℕ, ◌+◌, ◌<◌, ◌^◌, [], Ok, nat_lt, if◌then◌else◌}
use Rattle.chain_model.specs.declared.chain.Chain.{Chain}
use Rattle.chain_model.specs.States.{State, IsState}
use Rattle.chain_model.specs.Choices.{choices_of}
use Rattle.successors.specs.declared.next.Next.{Next}
use Rattle.successors.specs.declared.next.Next.TheVariants as n
use Rattle.successors.specs.Moves.{next_of}

-- each step from a state leads to this one, and draws nothing
pub record LeadsTo (chain : Chain) (state next : State) : Type 0 where
  pub step : (draw : ℕ → ℕ) (position : ℕ)
      → next_of chain draw (record { state = state; position = position }) ≡ Ok (record { state = next; position = position })
  pub fits : IsState chain next

-- each step from a state draws once, and leads to the first of two states where the draw is below a threshold, else to the second
pub record LeadsByDraw (chain : Chain) (state : State) (threshold : ℕ) (first second : State) : Type 0 where
  pub step : (draw : ℕ → ℕ) (position : ℕ) → draw position < 2 ^ 64
      → next_of chain draw (record { state = state; position = position })
      ≡ Ok (record { state = (if nat_lt (draw position) threshold then first else second); position = position + 1 })
  pub first_fits : IsState chain first
  pub second_fits : IsState chain second

-- what is told of a state is so, where these are the two states
abbrev pub IsNext : Chain → State → Next → State → State → Type 0
IsNext chain state n.Stays first second = choices_of chain state ≡ Ok []
IsNext chain state n.One first second = LeadsTo chain state first
IsNext chain state (n.Drawn threshold) first second = LeadsByDraw chain state threshold first second
IsNext chain state n.Untold first second = Unit
