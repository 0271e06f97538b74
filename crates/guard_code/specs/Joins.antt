-- What the parts of a chain make of it: a comparison, arithmetic, `&` or `|`, plain tests, or a literal.
use Rattle.std.specs.Prelude.{◌≡◌, List, map, count_by, Bool, Ok, pos, if◌then◌else◌}
use Rattle.chain_model.specs.declared.values.LabelValues.{LabelValues}
use Rattle.chain_model.specs.declared.values.Value.{Value}
use Rattle.chain_model.specs.declared.values.Value.TheVariants as v
use Rattle.chain_model.specs.declared.expressions.Op.{Op}
use Rattle.chain_model.specs.declared.expressions.Func.{Func}
use Rattle.chain_model.specs.States.{State}
use Rattle.chain_model.specs.Values.{level_value, call_value}
use Rattle.guard_code.specs.declared.nodes.Node.{Node}
use Rattle.guard_code.specs.declared.plain_tests.Test.{Test}
use Rattle.guard_code.specs.Tests.{test_holds}
use Rattle.guard_code.specs.Wholes.{TruthResult, WholeResult, stored_of, truth_of, as_truth, as_whole, compare_result, wholes_result, extreme_result, remainder_result, quotient_value, junction_result}
use Rattle.guard_code.specs.Nodes.{node_value}
use Rattle.guard_code.specs.Means.{Always}

-- what nodes give as whole numbers, and as truth values
abbrev pub stored_parts : LabelValues → State → List Node → List WholeResult
stored_parts labels state parts = map stored_of (map (node_value labels state) parts)

abbrev pub truth_parts : LabelValues → State → List Node → List TruthResult
truth_parts labels state parts = map truth_of (map (node_value labels state) parts)

-- a chain has the same value in every state
pub record FoldsTo (value : Value) (parts : List Node) (ops : List Op) : Type 0 where
  pub same : (labels : LabelValues) (state : State) → level_value (map (node_value labels state) parts) ops ≡ Ok value

-- a call has the same value in every state
pub record CallsTo (value : Value) (func : Func) (parts : List Node) : Type 0 where
  pub same : (labels : LabelValues) (state : State) → call_value func (map (node_value labels state) parts) ≡ Ok value

-- a chain compares two whole numbers, and a node is that comparison
pub record IsCompared (op : Op) (parts : List Node) (ops : List Op) : Type 0 where
  pub same : Always (λ labels state. level_value (map (node_value labels state) parts) ops ≡ as_truth (compare_result op (stored_parts labels state parts)))

pub record IsComparisonOf (node : Node) (op : Op) (parts : List Node) : Type 0 where
  pub same : Always (λ labels state. node_value labels state node ≡ as_truth (compare_result op (stored_parts labels state parts)))

-- a plain test says what a comparison does
pub record IsTestOf (test : Test) (op : Op) (parts : List Node) : Type 0 where
  pub same : Always (λ labels state. as_truth (compare_result op (stored_parts labels state parts)) ≡ Ok (v.Bool (test_holds state test)))

-- a chain calculates with whole numbers
pub record IsCalculated (parts : List Node) (ops : List Op) : Type 0 where
  pub same : Always (λ labels state. level_value (map (node_value labels state) parts) ops ≡ as_whole (wholes_result (stored_parts labels state parts) ops))

-- a node is such a chain
pub record IsCalculationOf (node : Node) (parts : List Node) (ops : List Op) : Type 0 where
  pub same : Always (λ labels state. node_value labels state node ≡ as_whole (wholes_result (stored_parts labels state parts) ops))

-- a part is 1 where a test holds and else 0, and so are several, one for one
pub record IsCounted (test : Test) (part : Node) : Type 0 where
  pub same : (labels : LabelValues) (state : State) → stored_of (node_value labels state part) ≡ Ok (if test_holds state test then pos 1 else pos 0)

pub record AreCounted (tests : List Test) (parts : List Node) : Type 0 where
  pub same : (labels : LabelValues) (state : State) → stored_parts labels state parts ≡ map (λ test. Ok (if test_holds state test then pos 1 else pos 0)) tests

-- a chain of whole numbers gives how many of some tests hold
pub record IsCountOf (tests : List Test) (parts : List Node) (ops : List Op) : Type 0 where
  pub same : (labels : LabelValues) (state : State) → wholes_result (stored_parts labels state parts) ops ≡ Ok (pos (count_by (test_holds state) tests))

-- a chain is a whole number over another
pub record IsQuotient (parts : List Node) (ops : List Op) : Type 0 where
  pub same : Always (λ labels state. level_value (map (node_value labels state) parts) ops ≡ quotient_value (stored_parts labels state parts))

-- a call is the least or the greatest of whole numbers
pub record IsExtreme (func : Func) (parts : List Node) : Type 0 where
  pub same : Always (λ labels state. call_value func (map (node_value labels state) parts) ≡ as_whole (extreme_result func (stored_parts labels state parts)))

-- a call is the remainder of two whole numbers
pub record IsRemainder (func : Func) (parts : List Node) : Type 0 where
  pub same : Always (λ labels state. call_value func (map (node_value labels state) parts) ≡ as_whole (remainder_result (stored_parts labels state parts)))

-- a chain is of `&`, or of `|`, and a node is that chain
pub record IsDecided (deciding : Bool) (parts : List Node) (ops : List Op) : Type 0 where
  pub same : Always (λ labels state. level_value (map (node_value labels state) parts) ops ≡ as_truth (junction_result deciding (truth_parts labels state parts)))

pub record IsJunctionOf (node : Node) (deciding : Bool) (parts : List Node) : Type 0 where
  pub same : Always (λ labels state. node_value labels state node ≡ as_truth (junction_result deciding (truth_parts labels state parts)))

-- nodes are plain tests
pub record AreTests (tests : List Test) (parts : List Node) : Type 0 where
  pub same : (labels : LabelValues) (state : State) → map (node_value labels state) parts ≡ map (λ test. Ok (v.Bool (test_holds state test))) tests
