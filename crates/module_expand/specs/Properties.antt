-- Properties in which formulas are replaced, and their expressions.
use Rattle.std.specs.Prelude.{List, [], ◌∷◌, Option}
use Rattle.prism_syntax.specs.declared.expressions.Expr.{Expr}
use Rattle.prism_syntax.specs.declared.properties.Time.{Time}
use Rattle.prism_syntax.specs.declared.properties.Time.TheVariants.{Upto}
use Rattle.prism_syntax.specs.declared.properties.PathText.{PathText}
use Rattle.prism_syntax.specs.declared.properties.PathText.TheVariants as path
use Rattle.prism_syntax.specs.declared.properties.Property.{Property}
use Rattle.prism_syntax.specs.Replaced.{replaced}
use Rattle.prism_names.specs.First.{Name}

-- a path formula in whose state formulas each name is replaced by what it stands for; its time stays
abbrev pub flat_path : (Name → Option Expr) → PathText → PathText
flat_path by (path.Next x) = path.Next (replaced by x)
flat_path by (path.Finally t x) = path.Finally t (replaced by x)
flat_path by (path.Globally t x) = path.Globally t (replaced by x)
flat_path by (path.Until x t y) = path.Until (replaced by x) t (replaced by y)

-- a property in whose state formulas each name is replaced by what it stands for; its bound and its time stay
abbrev pub flat_property : (Name → Option Expr) → Property → Property
flat_property by p = record { cmp = p.cmp; bound = p.bound; path = flat_path by p.path }

-- the last step of a time
abbrev pub time_expr : Time → Expr
time_expr (Upto strict last) = last

-- the expressions of a path formula in text order, its time among them
abbrev pub path_exprs : PathText → List Expr
path_exprs (path.Next x) = x ∷ []
path_exprs (path.Finally t x) = time_expr t ∷ (x ∷ [])
path_exprs (path.Globally t x) = time_expr t ∷ (x ∷ [])
path_exprs (path.Until x t y) = x ∷ (time_expr t ∷ (y ∷ []))

-- the expressions of a property in text order
abbrev pub property_exprs : Property → List Expr
property_exprs p = p.bound ∷ path_exprs p.path
