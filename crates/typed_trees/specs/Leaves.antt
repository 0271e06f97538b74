-- What a name stands for in an expression: a constant's value, or a variable.
use Rattle.std.specs.Prelude.{ℕ, ◌-◌, ◌^◌, min, List, Option, Some, None, bytes_eq, map, if◌then◌else◌}
use Rattle.std.specs.Option.{option_or}
use Rattle.std.specs.List.{enumerate_from}
use Rattle.std.specs.Map.{lookup}
use Rattle.chain_model.specs.declared.values.Sort.{Sort}
use Rattle.chain_model.specs.declared.values.Value.{Value}
use Rattle.chain_model.specs.declared.expressions.Typed.{Typed}
use Rattle.chain_model.specs.declared.expressions.Form.TheVariants as form
use Rattle.chain_model.specs.Sorts.{◌>>=◌, is_of_sort}
use Rattle.prism_names.specs.First.{Name}
use Rattle.const_eval.specs.declared.consts.Constant.{Constant}

-- a literal of a sort
abbrev pub literal : Sort → Value → Typed
literal sort value = record { sort = sort; form = form.Lit value }

-- a variable of a sort, by its number
abbrev pub variable : Sort → ℕ → Typed
variable sort number = record { sort = sort; form = form.Var number }

-- the constant of a name
abbrev pub constant_of : List (Name × Constant) → Name → Option Constant
constant_of consts name = lookup (bytes_eq name) consts

-- a constant as a literal, where its value is of its sort, as each constant's is
abbrev pub constant_tree : Constant → Option Typed
constant_tree c = if is_of_sort c.sort c.value then Some (literal c.sort c.value) else None

-- what a name stands for where only constants may be named: the value of the constant
abbrev pub constant_leaf : List (Name × Constant) → Name → Option Typed
constant_leaf consts name = constant_of consts name >>= constant_tree

-- a number as a chain and a refusal have it, up to 2^32 - 1
abbrev pub shown : ℕ → ℕ
shown number = min number (2 ^ 32 - 1)

-- variables with their names, numbered in their order
abbrev pub numbered : List (Name × Sort) → List (Name × Typed)
numbered vars = map (λ v. (v.1.0, variable v.1.1 (shown v.0))) (enumerate_from 0 vars)

-- the variable of a name, the first among these with their sorts
abbrev pub variable_leaf : List (Name × Sort) → Name → Option Typed
variable_leaf vars name = lookup (bytes_eq name) (numbered vars)

-- what a name stands for: a constant or, where it is none, a variable
abbrev pub leaf_of : List (Name × Constant) → List (Name × Sort) → Name → Option Typed
leaf_of consts vars name = option_or (constant_leaf consts name) (variable_leaf vars name)
