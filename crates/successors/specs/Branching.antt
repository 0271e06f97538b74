-- How the branch that a command takes in a state depends on what is drawn, and what commands make of a state by that.
use Rattle.std.specs.Prelude.{◌≡◌, ℕ, ◌+◌, ◌<◌, ◌^◌, List, Result, Ok, nat_lt, map, sum, if◌then◌else◌}
use Rattle.chain_model.specs.declared.outcome.TraceFault.{TraceFault}
use Rattle.chain_model.specs.declared.chain.Chain.{Chain}
use Rattle.chain_model.specs.Results.{◌>>=◌}
use Rattle.chain_model.specs.States.{State, IsState}
use Rattle.chain_model.specs.Step.{all_sets, branch_of, branches_of, command_draws}
use Rattle.trace_meaning.specs.Assigning.{assigned_to}
use Rattle.successors.specs.declared.branching.Branching.{Branching}
use Rattle.successors.specs.declared.branching.Branching.TheVariants as b
use Rattle.successors.specs.declared.next.Next.{Next}
use Rattle.successors.specs.declared.next.Next.TheVariants as n

-- in a state a command takes its first branch, and nothing is drawn
pub record IsSure (chain : Chain) (state : State) (command : ℕ) : Type 0 where
  pub branch : (draw : ℕ → ℕ) (position : ℕ) → branch_of chain draw state position command ≡ Ok 0
  pub draws : command_draws chain command ≡ 0

-- in a state a command takes one branch where the draw is below a threshold, and another elsewhere
pub record IsByDraw (chain : Chain) (state : State) (command threshold below above : ℕ) : Type 0 where
  pub branch : (draw : ℕ → ℕ) (position : ℕ) → draw position < 2 ^ 64
      → branch_of chain draw state position command ≡ Ok (if nat_lt (draw position) threshold then below else above)
  pub draws : command_draws chain command ≡ 1

-- what is told of the branch that a command takes in a state is so
abbrev pub IsBranching : Chain → State → ℕ → Branching → Type 0
IsBranching chain state command b.Sure = IsSure chain state command
IsBranching chain state command (b.ByDraw threshold below above) = IsByDraw chain state command threshold below above
IsBranching chain state command b.Untold = Unit

-- what the branches of commands, by the draws from a position on, make of a copy of the old state
abbrev pub made_by : Chain → (ℕ → ℕ) → State → ℕ → State → List ℕ → Result State TraceFault
made_by chain draw state position copy commands =
    branches_of chain draw state position commands >>= λ branches. assigned_to chain state copy (all_sets chain commands branches)

-- how many draws the branches of commands take
abbrev pub draws_of : Chain → List ℕ → ℕ
draws_of chain commands = sum (map (command_draws chain) commands)

-- what commands make of a state is what those of them that are left make of a copy, and nothing was drawn for the others
pub record GoesOn (chain : Chain) (state : State) (commands left : List ℕ) (copy : State) : Type 0 where
  pub same : (draw : ℕ → ℕ) (position : ℕ) → made_by chain draw state position state commands ≡ made_by chain draw state position copy left
  pub draws : draws_of chain commands ≡ draws_of chain left
  pub fits : IsState chain copy

-- one draw was for the others: where it is below a threshold those that are left go on from the first copy, else from the second
pub record GoesOnByDraw (chain : Chain) (state : State) (commands left : List ℕ) (threshold : ℕ) (first second : State) : Type 0 where
  pub same : (draw : ℕ → ℕ) (position : ℕ) → draw position < 2 ^ 64
      → made_by chain draw state position state commands
      ≡ made_by chain draw state (position + 1) (if nat_lt (draw position) threshold then first else second) left
  pub draws : draws_of chain commands ≡ 1 + draws_of chain left
  pub first_fits : IsState chain first
  pub second_fits : IsState chain second

-- what is told of the states that commands make, while some of them are left, is so of these two copies
abbrev pub IsLed : Chain → State → List ℕ → List ℕ → Next → State → State → Type 0
IsLed chain state commands left n.Stays first second = ⊥
IsLed chain state commands left n.One first second = GoesOn chain state commands left first × (second ≡ first)
IsLed chain state commands left (n.Drawn threshold) first second = GoesOnByDraw chain state commands left threshold first second
IsLed chain state commands left n.Untold first second = Unit
