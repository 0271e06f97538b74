-- What the built-in labels say, and with them the value of an expression of a property.
use Rattle.std.specs.Prelude.{List, [], ◌∷◌, Bool, true, false, Ok}
use Rattle.std.specs.Ordering.{int_eq}
use Rattle.std.specs.Cmp.Lexicographic.{pointwise}
use Rattle.chain_model.specs.declared.values.LabelValues.{LabelValues}
use Rattle.chain_model.specs.declared.expressions.Typed.{Typed}
use Rattle.chain_model.specs.declared.chain.Chain.{Chain}
use Rattle.chain_model.specs.Results.{◌>>=◌}
use Rattle.chain_model.specs.States.{State, initial_of}
use Rattle.chain_model.specs.Values.{Valued, value_with}
use Rattle.chain_model.specs.Choices.{choices_of}

-- a list has no item
abbrev pub is_empty : {A : Type 0} → List A → Bool
is_empty [] = true
is_empty (x ∷ xs) = false

-- "init" holds in a state equal to the initial one, and "deadlock" in a state without a choice; where a guard faults
-- "deadlock" has that fault, which only an expression that reads the label has too
abbrev pub labels_of : Chain → State → LabelValues
labels_of chain state = record {
  init = pointwise int_eq state (initial_of chain);
  deadlock = choices_of chain state >>= λ choices. Ok (is_empty choices);
}

-- the value of an expression in a state of a chain, where the built-in labels may stand in it
unfoldable pub value_of : Chain → State → Typed → Valued
value_of chain state expr = value_with (labels_of chain state) state expr
