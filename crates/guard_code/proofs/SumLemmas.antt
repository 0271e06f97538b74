-- Chains of whole numbers, and of two sides.
use Rattle.std.proofs.Common.{◌≡◌, ◌<◌, ◌≤◌, List, [], ◌∷◌, length, get_or, refl, sym, ap, ap₂, ◌∙◌}
use Rattle.std.specs.Prelude.{◌+ℤ◌, Ok, Err}
use Rattle.chain_model.specs.declared.values.LabelValues.{LabelValues}
use Rattle.chain_model.specs.declared.expressions.Op.{Op}
use Rattle.chain_model.specs.Results.{◌>>=◌}
use Rattle.chain_model.specs.States.{State}
use Rattle.guard_code.specs.declared.nodes.Node.{Node}
use Rattle.guard_code.specs.declared.nodes.Node.TheVariants as n
use Rattle.guard_code.specs.declared.shapes.Side.{Side}
use Rattle.guard_code.specs.declared.calculations.Shift.{Shift}
use Rattle.guard_code.specs.Tests.{number_in}
use Rattle.guard_code.specs.Shapes.{side_value}
use Rattle.guard_code.specs.Wholes.{WholeResult, limited, whole_result, wholes_after, wholes_result, as_whole, stored_of}
use Rattle.guard_code.specs.Nodes.{node_value}
use Rattle.guard_code.specs.Means.{Always}
use Rattle.guard_code.specs.Joins.{IsCalculationOf, stored_parts}
use Rattle.guard_code.proofs.NodeLemmas.{value-arithmetic}
use Rattle.guard_code.proofs.JoinLemmas.{two_of}

-- where no part is left a chain is what it has come to
no_more : (r : WholeResult) → (r >>= λ a. wholes_after a [] []) ≡ r
no_more (Ok a) = refl
no_more (Err fault) = refl

-- what an operator makes of two sides
pub shifted_sides : (op : Op) (parts : List Node) (ops : List Op) (first second : Node) (left right : Side) (shift : Shift) (node : Node) → 2 ≤ length parts → length parts < 3
    → ops ≡ op ∷ [] → first ≡ get_or parts 0 first → second ≡ get_or parts 1 second
    → Always (λ labels state. stored_of (node_value labels state first) ≡ Ok (side_value state left))
    → Always (λ labels state. stored_of (node_value labels state second) ≡ Ok (side_value state right))
    → ((state : State) → whole_result op (side_value state left) (side_value state right) ≡ limited (number_in state shift.variable +ℤ shift.by))
    → ((labels : LabelValues) (state : State) → node_value labels state node ≡ as_whole (limited (number_in state shift.variable +ℤ shift.by)))
    → IsCalculationOf node parts ops
shifted_sides op parts ops first second left right shift node some few only a b p q is made = record {
  same = λ labels state small.
      made labels state
      ∙ sym (ap₂ (λ (ps : List Node) (os : List Op). as_whole (wholes_result (stored_parts labels state ps) os)) (two_of parts first second some few a b) only
      ∙ ap₂ (λ (x y : WholeResult). as_whole (wholes_result (x ∷ (y ∷ [])) (op ∷ []))) (p labels state small) (q labels state small)
      ∙ ap as_whole (no_more (whole_result op (side_value state left) (side_value state right)) ∙ is state));
}

-- the node of a chain of whole numbers is that chain
pub is_calculation : (parts : List Node) (ops : List Op) → IsCalculationOf (n.Arithmetic parts ops) parts ops
is_calculation parts ops = record { same = λ labels state small. value-arithmetic labels state parts ops }
