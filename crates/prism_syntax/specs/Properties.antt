-- The grammar of properties: one relation for each of its lines.
use Rattle.std.specs.Prelude.{List, [], ◌∷◌, ◌++◌, Bool, true, false, ℕ}
use Rattle.smc_num.specs.Fraction.{Fraction}
use Rattle.prism_syntax.specs.declared.labels.Labels.TheVariants.{Allowed}
use Rattle.prism_syntax.specs.declared.tokens.Kind.{Kind}
use Rattle.prism_syntax.specs.declared.tokens.Kind.TheVariants as k
use Rattle.prism_syntax.specs.declared.expressions.Expr.{Expr}
use Rattle.prism_syntax.specs.declared.expressions.Expr.TheVariants as e
use Rattle.prism_syntax.specs.declared.precedence.Precedence.TheVariants as rule
use Rattle.prism_syntax.specs.declared.properties.Cmp.{Cmp}
use Rattle.prism_syntax.specs.declared.properties.Cmp.TheVariants as cmp
use Rattle.prism_syntax.specs.declared.properties.Time.{Time}
use Rattle.prism_syntax.specs.declared.properties.Time.TheVariants.{Upto}
use Rattle.prism_syntax.specs.declared.properties.PathText.{PathText}
use Rattle.prism_syntax.specs.declared.properties.PathText.TheVariants as path
use Rattle.prism_syntax.specs.declared.properties.Property.{Property}
use Rattle.prism_syntax.specs.Expressions.{Derives, IsExpr}

-- a comparison with the bound
pub data IsCmp : Kind → Cmp → Type 0 where
  at_least : IsCmp k.GreaterEqual cmp.AtLeast
  above : IsCmp k.Greater cmp.Above
  at_most : IsCmp k.LessEqual cmp.AtMost
  below : IsCmp k.Less cmp.Below

-- the sign of a time; `<` is strict
pub data IsTimeSign : Kind → Bool → Type 0 where
  within : IsTimeSign k.LessEqual false
  strict : IsTimeSign k.Less true

-- a time: a whole number, a name, or an expression in parentheses
pub data IsTime : List Kind → Time → Type 0 where
  whole : {t : Kind} {strict : Bool} {value : Fraction} → IsTimeSign t strict → IsTime (t ∷ (k.Whole value ∷ [])) (Upto strict (e.Whole value))
  name : {t : Kind} {strict : Bool} {n : List ℕ} → IsTimeSign t strict → IsTime (t ∷ (k.Name n ∷ [])) (Upto strict (e.Name n))
  paren : {t : Kind} {strict : Bool} {a : List Kind} {x : Expr}
      → IsTimeSign t strict → IsExpr Allowed a x → IsTime (t ∷ (k.Open ∷ (a ++ (k.Close ∷ [])))) (Upto strict (e.Paren x))

-- a path formula
pub data IsPath : List Kind → PathText → Type 0 where
  next : {a : List Kind} {x : Expr} → IsExpr Allowed a x → IsPath (k.X ∷ a) (path.Next x)
  finally : {a b : List Kind} {t : Time} {x : Expr} → IsTime a t → IsExpr Allowed b x → IsPath (k.F ∷ (a ++ b)) (path.Finally t x)
  globally : {a b : List Kind} {t : Time} {x : Expr} → IsTime a t → IsExpr Allowed b x → IsPath (k.G ∷ (a ++ b)) (path.Globally t x)
  until : {a b c : List Kind} {t : Time} {x y : Expr}
      → IsExpr Allowed a x → IsTime b t → IsExpr Allowed c y → IsPath (a ++ (k.U ∷ (b ++ c))) (path.Until x t y)

-- the tokens are a property, and this is its tree
pub data IsProperty : List Kind → Property → Type 0 where
  property : {t : Kind} {c : Cmp} {a b : List Kind} {x : Expr} {p : PathText}
      → IsCmp t c → Derives Allowed rule.Sum a x → IsPath b p
      → IsProperty (k.P ∷ (t ∷ (a ++ (k.OpenBracket ∷ (b ++ (k.CloseBracket ∷ [])))))) (record { cmp = c; bound = x; path = p })
