-- How deep the parentheses of a tree are nested.
use Rattle.std.specs.Prelude.{ℕ, ◌+◌, max, List, fold}
use Rattle.prism_syntax.specs.declared.expressions.Expr.{Expr}
use Rattle.prism_syntax.specs.declared.expressions.Expr.TheOpen.{Expr-F}
use Rattle.prism_syntax.specs.declared.expressions.Expr.TheOpen as top
use Rattle.prism_syntax.specs.declared.expressions.Expr.TheFolds.{fold-Expr}

-- the greatest of some depths; 0 where there is none
abbrev pub deepest : List ℕ → ℕ
deepest depths = fold max 0 depths

-- a pair of parentheses is one deeper than what is in it, all else as deep as its deepest part
abbrev pub paren_depth_step : Expr-F ℕ → ℕ
paren_depth_step (top.Whole value) = 0
paren_depth_step (top.Real value) = 0
paren_depth_step (top.Truth value) = 0
paren_depth_step (top.Name text) = 0
paren_depth_step (top.Quoted text) = 0
paren_depth_step (top.Paren x) = 1 + x
paren_depth_step (top.Call f xs) = deepest xs
paren_depth_step (top.Not x) = x
paren_depth_step (top.Minus x) = x
paren_depth_step (top.Level xs ops) = deepest xs
paren_depth_step (top.If x y z) = max x (max y z)

-- how many pairs of parentheses stand one within another, at most; those of calls don't count
abbrev pub paren_depth : Expr → ℕ
paren_depth = fold-Expr ℕ paren_depth_step
