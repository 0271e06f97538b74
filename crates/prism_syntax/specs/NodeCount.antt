-- The number of nodes of a tree.
use Rattle.std.specs.Prelude.{ℕ, ◌+◌, sum}
use Rattle.prism_syntax.specs.declared.expressions.Expr.{Expr}
use Rattle.prism_syntax.specs.declared.expressions.Expr.TheOpen.{Expr-F}
use Rattle.prism_syntax.specs.declared.expressions.Expr.TheOpen as top
use Rattle.prism_syntax.specs.declared.expressions.Expr.TheFolds.{fold-Expr}

-- one node for the top of a tree, beside the nodes of its parts
abbrev pub nodes_step : Expr-F ℕ → ℕ
nodes_step (top.Whole value) = 1
nodes_step (top.Real value) = 1
nodes_step (top.Truth value) = 1
nodes_step (top.Name text) = 1
nodes_step (top.Quoted text) = 1
nodes_step (top.Paren x) = 1 + x
nodes_step (top.Call f xs) = 1 + sum xs
nodes_step (top.Not x) = 1 + x
nodes_step (top.Minus x) = 1 + x
nodes_step (top.Level xs ops) = 1 + sum xs
nodes_step (top.If x y z) = 1 + x + y + z

-- one node for each literal, name, quoted name, pair of parentheses, call, sign, level and conditional
abbrev pub node_count : Expr → ℕ
node_count = fold-Expr ℕ nodes_step
