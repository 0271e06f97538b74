-- The value of an expression whose names stand for something: exact, from left to right, and the first fault is that of the whole.
use Rattle.std.specs.Prelude.{pos, neg_ℤ, Option, Ok, if◌then◌else◌, map, not, false, unwrap_or}
use Rattle.smc_num.specs.Fraction.{fraction_of}
use Rattle.prism_syntax.specs.declared.expressions.Expr.{Expr}
use Rattle.prism_syntax.specs.declared.expressions.Expr.TheOpen.{Expr-F}
use Rattle.prism_syntax.specs.declared.expressions.Expr.TheOpen as top
use Rattle.prism_syntax.specs.declared.expressions.Expr.TheFolds.{fold-Expr}
use Rattle.chain_model.specs.declared.values.Value.TheVariants as v
use Rattle.chain_model.specs.Results.{◌>>=◌}
use Rattle.chain_model.specs.Values.{Valued, truth, as_value, apply_to_number, level_value, call_value}
use Rattle.prism_names.specs.First.{Name}
use Rattle.const_eval.specs.Tables.{op_of, func_of}

-- some value, where nothing is said of one
abbrev pub some_value : Valued
some_value = Ok (v.Bool false)

-- what names stand for by a table; a name that it lacks has some value
abbrev pub by_table : (Name → Option Valued) → Name → Valued
by_table table name = unwrap_or (table name) some_value

-- the value of a node by those of its parts, by the table of forms; parentheses have their part's value, the name of a label has some value
abbrev pub value_step : (Name → Valued) → Expr-F Valued → Valued
value_step values (top.Whole value) = Ok (v.Num value)
value_step values (top.Real value) = Ok (v.Num value)
value_step values (top.Truth value) = Ok (v.Bool value)
value_step values (top.Name name) = values name
value_step values (top.Quoted name) = some_value
value_step values (top.Paren x) = x
value_step values (top.Call f xs) = call_value (func_of f) xs
value_step values (top.Not x) = x >>= λ a. Ok (v.Bool (not (truth a)))
value_step values (top.Minus x) = x >>= apply_to_number (λ n. as_value (fraction_of (neg_ℤ n.num) (pos n.den)))
value_step values (top.Level xs ops) = level_value xs (map op_of ops)
value_step values (top.If c x y) = c >>= λ a. if truth a then x else y

-- the value of an expression, where its names have these values
abbrev pub value_in : (Name → Valued) → Expr → Valued
value_in values = fold-Expr Valued (value_step values)
