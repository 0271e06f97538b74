-- The sort of an expression whose names stand for something.
use Rattle.std.specs.Prelude.{Option, Some, None, if◌then◌else◌, map}
use Rattle.prism_syntax.specs.declared.expressions.Expr.{Expr}
use Rattle.prism_syntax.specs.declared.expressions.Expr.TheOpen.{Expr-F}
use Rattle.prism_syntax.specs.declared.expressions.Expr.TheOpen as top
use Rattle.prism_syntax.specs.declared.expressions.Expr.TheFolds.{fold-Expr}
use Rattle.chain_model.specs.declared.values.Sort.{Sort}
use Rattle.chain_model.specs.declared.values.Sort.TheVariants as sort
use Rattle.chain_model.specs.declared.values.Value.TheVariants as v
use Rattle.chain_model.specs.Sorts.{◌>>=◌, is_of_sort, negation_sort, opposite_sort, level_sort, call_sort}
use Rattle.chain_model.specs.Typing.{if_sort}
use Rattle.prism_names.specs.First.{Name}
use Rattle.const_eval.specs.Tables.{op_of, func_of}

-- the sort of a node by those of its parts, by the table of forms; parentheses are of their part's sort, and the name of a label has none
abbrev pub sort_step : (Name → Option Sort) → Expr-F (Option Sort) → Option Sort
sort_step sorts (top.Whole value) = if is_of_sort sort.Int (v.Num value) then Some sort.Int else None
sort_step sorts (top.Real value) = Some sort.Double
sort_step sorts (top.Truth value) = Some sort.Bool
sort_step sorts (top.Name name) = sorts name
sort_step sorts (top.Quoted name) = None
sort_step sorts (top.Paren x) = x
sort_step sorts (top.Call f xs) = call_sort (func_of f) xs
sort_step sorts (top.Not x) = x >>= negation_sort
sort_step sorts (top.Minus x) = x >>= opposite_sort
sort_step sorts (top.Level xs ops) = level_sort xs (map op_of ops)
sort_step sorts (top.If c x y) = if_sort c x y

-- the sort of an expression, where its names are of these sorts; it has none where the sorts don't fit the table
abbrev pub sort_in : (Name → Option Sort) → Expr → Option Sort
sort_in sorts = fold-Expr (Option Sort) (sort_step sorts)
