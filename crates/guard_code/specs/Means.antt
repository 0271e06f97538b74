-- What compiling keeps: a node has the value of an expression in every state whose values are within the limits of numbers.
use Rattle.std.specs.Prelude.{◌≡◌, pos, neg_ℤ, List, ◌++◌, map, not, Ok}
use Rattle.chain_model.specs.declared.values.LabelValues.{LabelValues}
use Rattle.chain_model.specs.declared.values.Value.{Value}
use Rattle.chain_model.specs.declared.expressions.Op.{Op}
use Rattle.chain_model.specs.declared.expressions.Typed.{Typed}
use Rattle.chain_model.specs.declared.values.Value.TheVariants as v
use Rattle.chain_model.specs.Results.{◌>>=◌}
use Rattle.smc_num.specs.Fraction.{fraction_of}
use Rattle.chain_model.specs.States.{State}
use Rattle.chain_model.specs.Values.{Valued, truth, as_value, apply_to_number, value_with, level_value}
use Rattle.guard_code.specs.declared.nodes.Node.{Node}
use Rattle.guard_code.specs.Tests.{IsSmall}
use Rattle.guard_code.specs.Wholes.{truth_of, stored_of, as_truth, as_whole}
use Rattle.guard_code.specs.Nodes.{node_value}

-- what holds whatever the built-in labels say, in every state whose values are within the limits of numbers
abbrev pub Always : (LabelValues → State → Type 0) → Type 0
Always P = (labels : LabelValues) (state : State) → IsSmall state → P labels state

-- a node has the value of an expression
pub record Means (node : Node) (expr : Typed) : Type 0 where
  pub same : Always (λ labels state. node_value labels state node ≡ value_with labels state expr)

-- nodes have the values of expressions, one for one
pub record AllMean (nodes : List Node) (exprs : List Typed) : Type 0 where
  pub same : Always (λ labels state. map (node_value labels state) nodes ≡ map (value_with labels state) exprs)

-- a node has the value of a chain of nodes
pub record Joins (node : Node) (parts : List Node) (ops : List Op) : Type 0 where
  pub same : Always (λ labels state. node_value labels state node ≡ level_value (map (node_value labels state) parts) ops)

-- a node gives whole numbers alone, and a node gives truth values alone
pub record IsWhole (node : Node) : Type 0 where
  pub same : Always (λ labels state. node_value labels state node ≡ as_whole (stored_of (node_value labels state node)))

pub record IsTruth (node : Node) : Type 0 where
  pub same : Always (λ labels state. node_value labels state node ≡ as_truth (truth_of (node_value labels state node)))

-- a node gives the same in every state
pub record IsFixed (node : Node) : Type 0 where
  pub value : Value
  pub same : (labels : LabelValues) (state : State) → node_value labels state node ≡ Ok value

-- what `!` and unary `-` make of a value
abbrev pub negation : Valued → Valued
negation x = x >>= λ a. Ok (v.Bool (not (truth a)))

abbrev pub opposite_value : Valued → Valued
opposite_value x = x >>= apply_to_number (λ n. as_value (fraction_of (neg_ℤ n.num) (pos n.den)))

-- nodes stand after others, and have the values of expressions, one for one
pub record Adds (before after : List Node) (exprs : List Typed) : Type 0 where
  pub same : Always (λ labels state. map (node_value labels state) after ≡ map (node_value labels state) before ++ map (value_with labels state) exprs)
