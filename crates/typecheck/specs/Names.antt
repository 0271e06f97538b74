-- The first name in an expression that stands for nothing, and the first label that isn't there.
use Rattle.std.specs.Prelude.{List, [], ◌∷◌, ◌++◌, Option, not, is_some, find}
use Rattle.prism_syntax.specs.declared.expressions.Expr.{Expr}
use Rattle.prism_syntax.specs.declared.expressions.Expr.TheOpen.{Expr-F}
use Rattle.prism_syntax.specs.declared.expressions.Expr.TheOpen as top
use Rattle.prism_syntax.specs.declared.expressions.Expr.TheFolds.{fold-Expr}
use Rattle.chain_model.specs.declared.expressions.Typed.{Typed}
use Rattle.prism_names.specs.First.{Name}
use Rattle.prism_names.specs.Names.{names_of, concatenated}

-- the first of these names that stands for nothing
abbrev pub first_without : (Name → Option Typed) → List Name → Option Name
first_without stands names = find (λ name. not (is_some (stands name))) names

-- the first name in an expression, in text order, that stands for nothing
abbrev pub unknown_in : (Name → Option Typed) → Expr → Option Name
unknown_in names expr = first_without names (names_of expr)

-- the name of a label stands in itself, and in a tree those of its parts, from left to right
abbrev pub quoted_step : Expr-F (List Name) → List Name
quoted_step (top.Whole value) = []
quoted_step (top.Real value) = []
quoted_step (top.Truth value) = []
quoted_step (top.Name text) = []
quoted_step (top.Quoted text) = text ∷ []
quoted_step (top.Paren x) = x
quoted_step (top.Call f xs) = concatenated xs
quoted_step (top.Not x) = x
quoted_step (top.Minus x) = x
quoted_step (top.Level xs ops) = concatenated xs
quoted_step (top.If x y z) = x ++ (y ++ z)

-- the names of labels that stand in an expression in text order
abbrev pub quoted_of : Expr → List Name
quoted_of = fold-Expr (List Name) quoted_step

-- the first label that an expression names, in text order, and that isn't there
abbrev pub unknown_label_in : (Name → Option Typed) → Expr → Option Name
unknown_label_in labels expr = first_without labels (quoted_of expr)
