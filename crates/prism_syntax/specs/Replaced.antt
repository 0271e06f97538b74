-- Trees in which names are replaced by trees.
use Rattle.std.specs.Prelude.{ℕ, List, Option, unwrap_or}
use Rattle.prism_syntax.specs.declared.expressions.Expr.{Expr}
use Rattle.prism_syntax.specs.declared.expressions.Expr.TheVariants as e
use Rattle.prism_syntax.specs.declared.expressions.Expr.TheOpen.{Expr-F}
use Rattle.prism_syntax.specs.declared.expressions.Expr.TheOpen as top
use Rattle.prism_syntax.specs.declared.expressions.Expr.TheFolds.{fold-Expr}

-- a name that has a tree is that tree; all else is as it was, over its parts
abbrev pub replaced_step : (List ℕ → Option Expr) → Expr-F Expr → Expr
replaced_step by (top.Whole value) = e.Whole value
replaced_step by (top.Real value) = e.Real value
replaced_step by (top.Truth value) = e.Truth value
replaced_step by (top.Name text) = unwrap_or (by text) (e.Name text)
replaced_step by (top.Quoted text) = e.Quoted text
replaced_step by (top.Paren x) = e.Paren x
replaced_step by (top.Call f xs) = e.Call f xs
replaced_step by (top.Not x) = e.Not x
replaced_step by (top.Minus x) = e.Minus x
replaced_step by (top.Level xs ops) = e.Level xs ops
replaced_step by (top.If x y z) = e.If x y z

-- the tree in which each name that has a tree is replaced by it, all at once
abbrev pub replaced : (List ℕ → Option Expr) → Expr → Expr
replaced by = fold-Expr Expr (replaced_step by)
