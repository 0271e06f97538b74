-- The value of an expression in which only constants may be named.
use Rattle.std.specs.Prelude.{List, Option, Ok, option_map}
use Rattle.prism_syntax.specs.declared.expressions.Expr.{Expr}
use Rattle.chain_model.specs.Values.{Valued}
use Rattle.prism_names.specs.First.{Name}
use Rattle.const_eval.specs.declared.consts.Constant.{Constant}
use Rattle.const_eval.specs.Evaluating.{value_in, by_table}
use Rattle.typed_trees.specs.Leaves.{constant_of}

-- the value of the constant of a name; a name that is no constant has some value
abbrev pub value_of_name : List (Name × Constant) → Name → Valued
value_of_name consts = by_table (λ name. option_map (λ c. Ok c.value) (constant_of consts name))

-- the value of an expression of constants
abbrev pub constant_value : List (Name × Constant) → Expr → Valued
constant_value consts = value_in (value_of_name consts)
