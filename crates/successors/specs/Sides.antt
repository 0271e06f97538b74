-- What right sides assign.
use Rattle.std.specs.Prelude.{◌≡◌, ℕ, ℤ, not, ◌&&◌, int_le, List, Result, Ok}
use Rattle.chain_model.specs.declared.outcome.TraceFault.{TraceFault}
use Rattle.chain_model.specs.declared.outcome.TraceFault.TheVariants.{Range}
use Rattle.chain_model.specs.declared.expressions.Typed.{Typed}
use Rattle.chain_model.specs.declared.chain.Chain.{Chain}
use Rattle.chain_model.specs.Results.{◌>>=◌, ◌>>◌, refuse_if, each}
use Rattle.chain_model.specs.States.{State}
use Rattle.chain_model.specs.Choices.{no_labels}
use Rattle.chain_model.specs.Step.{assignment_of, after_assignments}
use Rattle.guard_code.specs.declared.nodes.Node.{Node}
use Rattle.guard_code.specs.Tests.{IsSmall}
use Rattle.guard_code.specs.Wholes.{stored_of}
use Rattle.guard_code.specs.Nodes.{node_value}
use Rattle.successors.specs.declared.sides.Side.{Side}
use Rattle.successors.specs.declared.sides.Side.TheVariants as s

-- a node's value stands as the same number in every state
pub record IsConstant (node : Node) (n : ℤ) : Type 0 where
  pub same : (state : State) → stored_of (node_value no_labels state node) ≡ Ok n

-- what a side assigns in a state: a variable's number, and a value within its range
abbrev pub assigned_by : State → Side → Result (ℕ × ℤ) TraceFault
assigned_by state (s.Constant variable value) = Ok (variable, value)
assigned_by state (s.Ranged variable lo hi node) =
    stored_of (node_value no_labels state node) >>= λ n. refuse_if (not (int_le lo n && int_le n hi)) (Range variable) >> Ok (variable, n)

-- a side assigns what an assignment of the chain does
pub record IsSide (chain : Chain) (set : ℕ × Typed) (side : Side) : Type 0 where
  pub same : (state : State) → IsSmall state → assignment_of chain state set ≡ assigned_by state side

-- sides assign what assignments of the chain do, one for one
pub record AreSides (chain : Chain) (sets : List (ℕ × Typed)) (sides : List Side) : Type 0 where
  pub same : (state : State) → IsSmall state → each (assignment_of chain state) sets ≡ each (assigned_by state) sides

-- a copy of the old state after what sides assign there, or the first fault
abbrev pub assigned_sides : State → State → List Side → Result State TraceFault
assigned_sides state copy sides = each (assigned_by state) sides >>= λ assigned. Ok (after_assignments copy assigned)
