-- What a command's weights say of the branch that it takes.
use Rattle.std.specs.Prelude.{◌≡◌, ◌==◌, ℕ, ◌<◌, ◌≤◌, ◌^◌, List, [], ◌∷◌, length, not, nat_lt, sum, Result, Ok}
use Rattle.smc_num.specs.Fraction.{Fraction}
use Rattle.trace_streams.specs.Pick.{pick_of}
use Rattle.chain_model.specs.declared.outcome.TraceFault.{TraceFault}
use Rattle.chain_model.specs.declared.outcome.TraceFault.TheVariants.{Weights, Denominator}
use Rattle.chain_model.specs.declared.chain.Chain.{Chain}
use Rattle.chain_model.specs.Limits.{most_weight_denominator}
use Rattle.chain_model.specs.Results.{◌>>=◌, ◌>>◌, refuse_if, each}
use Rattle.chain_model.specs.States.{State}
use Rattle.chain_model.specs.Choices.{no_labels}
use Rattle.chain_model.specs.Step.{as_weight, arms_of, first_above, weights_of, denominator_of, numerators_of, branch_number, branch_of, command_draws}
use Rattle.guard_code.specs.declared.nodes.Node.{Node}
use Rattle.guard_code.specs.Tests.{IsSmall}
use Rattle.guard_code.specs.Nodes.{node_value}
use Rattle.successors.specs.declared.weighing.Weights.{Weights as Weighing}
use Rattle.successors.specs.declared.weighing.Weights.TheVariants as w

-- the weight that a node gives, and those that nodes give, from left to right
abbrev pub node_weight : State → ℕ → Node → Result Fraction TraceFault
node_weight state command node = node_value no_labels state node >>= as_weight command

abbrev pub node_weights : State → ℕ → List Node → Result (List Fraction) TraceFault
node_weights state command nodes = each (node_weight state command) nodes

-- a node gives the same weight in every state
pub record IsFixedWeight (node : Node) (weight : Fraction) : Type 0 where
  pub same : (state : State) (command : ℕ) → node_weight state command node ≡ Ok weight

-- nodes give the same weights in every state
pub record AreFixedWeights (nodes : List Node) (weights : List Fraction) : Type 0 where
  pub same : (state : State) (command : ℕ) → node_weights state command nodes ≡ Ok weights

-- the branch that weights say: they have a common denominator and add up to 1, and of several a draw picks one
abbrev pub weighed_branch : (ℕ → ℕ) → ℕ → ℕ → List Fraction → Result ℕ TraceFault
weighed_branch draw position command weights = do
  refuse_if (nat_lt most_weight_denominator (denominator_of weights)) (Denominator command)
  refuse_if (not (sum (numerators_of weights) == denominator_of weights)) (Weights command)
  Ok (branch_number draw position weights)

-- two weights say the first branch exactly where a draw picks one of the first so many of so many parts
pub record IsShare (weights : List Fraction) (share whole : ℕ) : Type 0 where
  pub two : length weights ≡ 2
  pub some : 0 < whole
  pub few : whole ≤ 2 ^ 48
  pub branch : (draw : ℕ → ℕ) (position command : ℕ) → pick_of (draw position) whole < whole
      → weighed_branch draw position command weights ≡ Ok (first_above (pick_of (draw position) whole) (share ∷ []))

-- a command takes its first branch without a draw, whatever the state
pub record IsCertain (chain : Chain) (command : ℕ) : Type 0 where
  pub branch : (draw : ℕ → ℕ) (state : State) (position : ℕ) → IsSmall state → branch_of chain draw state position command ≡ Ok 0
  pub draws : command_draws chain command ≡ 0

-- in every state a command takes the first branch whose threshold exceeds the draw, and the next where none does
pub record HasThresholds (chain : Chain) (command : ℕ) (thresholds : List ℕ) : Type 0 where
  pub branch : (draw : ℕ → ℕ) (state : State) (position : ℕ) → IsSmall state → draw position < 2 ^ 64
      → branch_of chain draw state position command ≡ Ok (first_above (draw position) thresholds)
  pub draws : command_draws chain command ≡ 1

-- nodes give the weights of a command
pub record HasWeights (chain : Chain) (command : ℕ) (nodes : List Node) : Type 0 where
  pub weights : (state : State) → IsSmall state → weights_of state command (arms_of chain command) ≡ node_weights state command nodes
  pub long : length nodes ≡ length (arms_of chain command)

-- what is known of the weights of a command
abbrev pub IsWeighing : Chain → ℕ → Weighing → Type 0
IsWeighing chain command w.Certain = IsCertain chain command
IsWeighing chain command (w.Coin threshold) = HasThresholds chain command (threshold ∷ [])
IsWeighing chain command (w.Fixed thresholds) = HasThresholds chain command thresholds
IsWeighing chain command (w.Varying nodes) = HasWeights chain command nodes
