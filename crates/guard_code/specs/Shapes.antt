-- Which operators and functions make a shape of their own.
use Rattle.std.specs.Prelude.{ℤ, Bool, true, false}
use Rattle.chain_model.specs.declared.expressions.Func.{Func}
use Rattle.chain_model.specs.declared.expressions.Func.TheVariants as f
use Rattle.chain_model.specs.declared.expressions.Op.{Op}
use Rattle.chain_model.specs.declared.expressions.Op.TheVariants as o
use Rattle.chain_model.specs.States.{State}
use Rattle.guard_code.specs.declared.shapes.Side.{Side}
use Rattle.guard_code.specs.declared.shapes.Side.TheVariants.{Variable, Constant}
use Rattle.guard_code.specs.Tests.{number_in}

-- `+`, `-` and `*`
abbrev pub is_arithmetic : Op → Bool
is_arithmetic o.Add = true
is_arithmetic o.Sub = true
is_arithmetic o.Mul = true
is_arithmetic _ = false

-- `+`
abbrev pub is_sum : Op → Bool
is_sum o.Add = true
is_sum _ = false

-- `=`, `!=`, `<`, `<=`, `>` and `>=`
abbrev pub is_comparison : Op → Bool
is_comparison o.Eq = true
is_comparison o.Ne = true
is_comparison o.Lt = true
is_comparison o.Le = true
is_comparison o.Gt = true
is_comparison o.Ge = true
is_comparison _ = false

-- `&`, which a false part decides, and `|`, which a true part decides
abbrev pub is_junction : Bool → Op → Bool
is_junction false o.And = true
is_junction true o.Or = true
is_junction _ _ = false

-- `min` and `max`
abbrev pub is_extreme : Func → Bool
is_extreme f.Min = true
is_extreme f.Max = true
is_extreme _ = false

-- the number that a side of a comparison has
abbrev pub side_value : State → Side → ℤ
side_value state (Variable x) = number_in state x
side_value state (Constant c) = c
