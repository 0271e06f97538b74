-- The expansion of formulas.
use Rattle.std.specs.Prelude.{◌≡◌, List, Option, map, find, bytes_eq}
use Rattle.std.specs.Option.{option_map}
use Rattle.prism_syntax.specs.declared.expressions.Expr.{Expr}
use Rattle.prism_syntax.specs.declared.expressions.Expr.TheVariants as e
use Rattle.prism_syntax.specs.declared.models.Named.{Named}
use Rattle.prism_syntax.specs.Replaced.{replaced}
use Rattle.prism_names.specs.First.{Name}

-- what a name stands for: the tree of the first formula of this name, in parentheses
abbrev pub stands_for : List Named → Name → Option Expr
stands_for trees name = option_map (λ f. e.Paren f.body) (find (λ f. bytes_eq f.name name) trees)

-- the same name, with another body
abbrev pub with_body : (Expr → Expr) → Named → Named
with_body change f = record { name = f.name; body = change f.body }

-- these trees are the expansion of the formulas: each is the formula's own body, with each name replaced by what it
-- stands for among these very trees
abbrev pub AreExpanded : List Named → List Named → Type 0
AreExpanded formulas trees = trees ≡ map (with_body (replaced (stands_for trees))) formulas

-- formulas have one expansion at most
abbrev pub HaveOneExpansion : Type 0
HaveOneExpansion = (formulas trees others : List Named) → AreExpanded formulas trees → AreExpanded formulas others
    → trees ≡ others
