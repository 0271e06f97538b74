-- The names that stand in an expression.
use Rattle.std.specs.Prelude.{List, [], ◌∷◌, ◌++◌}
use Rattle.prism_syntax.specs.declared.expressions.Expr.{Expr}
use Rattle.prism_syntax.specs.declared.expressions.Expr.TheOpen.{Expr-F}
use Rattle.prism_syntax.specs.declared.expressions.Expr.TheOpen as top
use Rattle.prism_syntax.specs.declared.expressions.Expr.TheFolds.{fold-Expr}
use Rattle.prism_names.specs.First.{Name}

-- lists one after another
abbrev pub concatenated : List (List Name) → List Name
concatenated [] = []
concatenated (names ∷ lists) = names ++ concatenated lists

-- a name stands in itself, and in a tree the names of its parts, from left to right; names of labels don't count
abbrev pub names_step : Expr-F (List Name) → List Name
names_step (top.Whole value) = []
names_step (top.Real value) = []
names_step (top.Truth value) = []
names_step (top.Name text) = text ∷ []
names_step (top.Quoted text) = []
names_step (top.Paren x) = x
names_step (top.Call f xs) = concatenated xs
names_step (top.Not x) = x
names_step (top.Minus x) = x
names_step (top.Level xs ops) = concatenated xs
names_step (top.If x y z) = x ++ (y ++ z)

-- the names that stand in an expression in text order, each as often as it stands there
abbrev pub names_of : Expr → List Name
names_of = fold-Expr (List Name) names_step
