-- The lines of properties as rules made of others, for the functions that parse them.
use Rattle.std.specs.Prelude.{◌≡◌, ℕ, List, [], ◌∷◌, Bool, true, false, Option, Some, None}
use Rattle.smc_num.specs.Fraction.{Fraction}
use Rattle.prism_syntax.specs.declared.labels.Labels.TheVariants.{Allowed}
use Rattle.prism_syntax.specs.declared.tokens.Kind.{Kind}
use Rattle.prism_syntax.specs.declared.tokens.Kind.TheVariants as k
use Rattle.prism_syntax.specs.declared.expressions.Expr.{Expr}
use Rattle.prism_syntax.specs.declared.expressions.Expr.TheVariants as e
use Rattle.prism_syntax.specs.declared.precedence.Precedence.TheVariants as rule
use Rattle.prism_syntax.specs.declared.properties.Cmp.{Cmp}
use Rattle.prism_syntax.specs.declared.properties.Cmp.TheVariants as cmp
use Rattle.prism_syntax.specs.declared.properties.Time.{Time}
use Rattle.prism_syntax.specs.declared.properties.PathText.{PathText}
use Rattle.prism_syntax.specs.Expressions.{Derives, IsExpr}
use Rattle.prism_syntax.specs.Properties.{IsTime, IsPath}
use Rattle.prism_reading.specs.Sequences.{Both, Ended}

-- one token that has a tree by itself
pub data IsOne {X : Type 0} (tree_of : Kind → Option X) : List Kind → X → Type 0 where
  one : {t : Kind} {x : X} → tree_of t ≡ Some x → IsOne tree_of (t ∷ []) x

-- the comparison that a token is
abbrev pub cmp_of : Kind → Option Cmp
cmp_of k.GreaterEqual = Some cmp.AtLeast
cmp_of k.Greater = Some cmp.Above
cmp_of k.LessEqual = Some cmp.AtMost
cmp_of k.Less = Some cmp.Below
cmp_of _ = None

-- whether the sign of a time is strict
abbrev pub strict_of : Kind → Option Bool
strict_of k.LessEqual = Some false
strict_of k.Less = Some true
strict_of _ = None

-- a state formula up to a token that ends it
abbrev pub IsStateUntil : Kind → List Kind → Expr → Type 0
IsStateUntil stop = Ended (IsExpr Allowed) stop

-- the last step of a time: a whole number, a name, or an expression in parentheses
pub data IsLast : List Kind → Expr → Type 0 where
  whole : {value : Fraction} → IsLast (k.Whole value ∷ []) (e.Whole value)
  name : {text : List ℕ} → IsLast (k.Name text ∷ []) (e.Name text)
  paren : {a : List Kind} {x : Expr} → IsStateUntil k.Close a x → IsLast (k.Open ∷ a) (e.Paren x)

-- a time and the state formula after it, up to the end of the path formula
abbrev pub IsTimed : List Kind → Time × Expr → Type 0
IsTimed = Both IsTime (IsStateUntil k.CloseBracket)

-- a path formula with the bracket that ends it
abbrev pub IsPathUntil : List Kind → PathText → Type 0
IsPathUntil = Ended IsPath k.CloseBracket

-- a bound with the bracket after it
abbrev pub IsBoundUntil : List Kind → Expr → Type 0
IsBoundUntil = Ended (Derives Allowed rule.Sum) k.OpenBracket
