-- The numbers of a flat model's ranges: the first that has none, the first range that is empty, and the first initial value outside.
use Rattle.std.specs.Prelude.{ℕ, ℤ, pos, List, Option, Some, None, ◌&&◌, option_map, int_le, int_lt, if◌then◌else◌}
use Rattle.std.specs.List.{enumerate_from}
use Rattle.std.specs.Option.{option_map_or, option_or, option_and_then}
use Rattle.chain_model.specs.declared.outcome.TraceFault.{TraceFault}
use Rattle.chain_model.specs.Values.{Valued}
use Rattle.prism_syntax.specs.declared.expressions.Expr.{Expr}
use Rattle.prism_syntax.specs.declared.models.Variable.{Variable}
use Rattle.prism_names.specs.First.{Name, first_some}
use Rattle.typecheck.specs.Numbers.{fault_of, whole_of}

-- expressions of constants have these values
module _ (values : Expr → Valued) where
  -- the fault of the first of a variable's expressions that has one: the lower and the upper end of its range, and its initial value
  abbrev pub variable_fault : Variable → Option TraceFault
  variable_fault v =
      option_or (option_and_then (λ r. option_or (fault_of (values r.0)) (fault_of (values r.1))) v.range)
      (option_and_then (λ x. fault_of (values x)) v.init)

  -- the first variable with a fault, by its number, with that fault
  abbrev pub first_variable_fault : List Variable → Option (ℕ × TraceFault)
  first_variable_fault vars = first_some (λ v. option_map (λ fault. (v.0, fault)) (variable_fault v.1)) (enumerate_from 0 vars)

  -- the least and the greatest value of a variable, and the value that it starts with
  abbrev pub least : Variable → ℤ
  least v = option_map_or (λ r. whole_of (values r.0)) v.range (pos 0)

  abbrev pub greatest : Variable → ℤ
  greatest v = option_map_or (λ r. whole_of (values r.1)) v.range (pos 1)

  abbrev pub start : Variable → ℤ
  start v = option_map_or (λ x. whole_of (values x)) v.init (least v)

  -- a variable's name, where its least value is above its greatest
  abbrev pub if_empty : Variable → Option Name
  if_empty v = if int_lt (greatest v) (least v) then Some v.name else None

  -- a variable's name, where it starts outside its range
  abbrev pub if_outside : Variable → Option Name
  if_outside v = if int_le (least v) (start v) && int_le (start v) (greatest v) then None else Some v.name

  -- the first variable, in text order, whose least value is above its greatest
  abbrev pub first_empty : List Variable → Option Name
  first_empty vars = first_some if_empty vars

  -- the first variable, in text order, that starts outside its range
  abbrev pub first_outside_range : List Variable → Option Name
  first_outside_range vars = first_some if_outside vars
