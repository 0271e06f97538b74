-- The compiled commands of a chain: guards, weights and right sides.
use Rattle.std.specs.Prelude.{◌≡◌, ℕ, suc, List, [], ◌∷◌, length, map, Some, Ok, Result, if◌then◌else◌, slice_get, unwrap_or}
use Rattle.std.specs.Option.{option_map_or}
use Rattle.chain_model.specs.declared.outcome.TraceFault.{TraceFault}
use Rattle.chain_model.specs.declared.expressions.Typed.{Typed}
use Rattle.chain_model.specs.declared.chain.Arm.{Arm}
use Rattle.chain_model.specs.declared.chain.Act.{Act}
use Rattle.chain_model.specs.declared.chain.Chain.{Chain}
use Rattle.chain_model.specs.Results.{◌>>=◌}
use Rattle.chain_model.specs.States.{State}
use Rattle.chain_model.specs.Choices.{no_labels, value_in}
use Rattle.chain_model.specs.Step.{arms_of}
use Rattle.guard_code.specs.declared.nodes.Node.{Node}
use Rattle.guard_code.specs.Tests.{IsSmall}
use Rattle.guard_code.specs.Wholes.{truth_of}
use Rattle.guard_code.specs.Nodes.{node_value}
use Rattle.successors.specs.declared.sides.Side.{Side}
use Rattle.successors.specs.declared.commands.Command.{Command}
use Rattle.successors.specs.Sides.{AreSides}
use Rattle.successors.specs.Weighing.{IsWeighing}

-- the right sides of the branch of a number
abbrev pub sides_of : List (List Side) → ℕ → List Side
sides_of arms branch = unwrap_or (slice_get arms branch) []

-- the assignments of the branch of a number
abbrev pub sets_at : List Arm → ℕ → List (ℕ × Typed)
sets_at arms branch = option_map_or (λ arm. arm.sets) (slice_get arms branch) []

-- right sides are those of branches, one list for one
pub record AreArms (chain : Chain) (arms : List Arm) (lists : List (List Side)) : Type 0 where
  pub long : length lists ≡ length arms
  pub same : (branch : ℕ) → AreSides chain (sets_at arms branch) (sides_of lists branch)

-- a compiled command is the chain's of a number
pub record IsCommandCode (chain : Chain) (number : ℕ) (command : Command) : Type 0 where
  pub weighing : IsWeighing chain number command.weights
  pub arms : AreArms chain (arms_of chain number) command.arms

-- compiled commands are the chain's
pub record AreCommands (chain : Chain) (commands : List Command) : Type 0 where
  pub long : length commands ≡ length chain.commands
  pub each : (number : ℕ) (command : Command) → slice_get commands number ≡ Some command → IsCommandCode chain number command

-- nodes say what the guards of commands say, one for one
pub record AreGuardNodes (acts : List Act) (nodes : List Node) : Type 0 where
  pub long : length nodes ≡ length acts
  pub same : (state : State) → IsSmall state
      → map (λ node. truth_of (node_value no_labels state node)) nodes ≡ map (λ act. truth_of (value_in state act.guard)) acts

-- the numbers of the enabled commands by their guards' nodes, all of which are evaluated, in order
abbrev pub enabled_by : ℕ → State → List Node → Result (List ℕ) TraceFault
enabled_by number state [] = Ok []
enabled_by number state (node ∷ nodes) = do
  holds ← truth_of (node_value no_labels state node)
  others ← enabled_by (suc number) state nodes
  Ok (if holds then number ∷ others else others)
