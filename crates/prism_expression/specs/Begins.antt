-- Which tokens begin a text of a level: they are empty, or a whole text, or they end inside one part of it, where the
-- parts before are whole and the tokens from there on begin that part.
use Rattle.std.specs.Prelude.{◌≡◌, ◌+◌, true, List, [], ◌∷◌, ◌++◌, length, Some}
use Rattle.prism_syntax.specs.declared.labels.Labels.{Labels}
use Rattle.prism_syntax.specs.declared.tokens.Kind.{Kind}
use Rattle.prism_syntax.specs.declared.tokens.Kind.TheVariants as k
use Rattle.prism_syntax.specs.declared.expressions.Expr.{Expr}
use Rattle.prism_syntax.specs.declared.expressions.Func.{Func}
use Rattle.prism_syntax.specs.declared.expressions.Op.{Op}
use Rattle.prism_syntax.specs.declared.precedence.Precedence.{Precedence}
use Rattle.prism_syntax.specs.declared.precedence.Precedence.TheVariants as rule
use Rattle.prism_syntax.specs.Precedence.{inner, is_chain, is_prefix, operator, is_sign, function, takes}
use Rattle.prism_syntax.specs.Expressions.{Derives, Arguments}

-- the tokens begin a text of the level
pub data Begins (labels : Labels) : Precedence → List Kind → Type 0 where
  empty : {p : Precedence} → Begins labels p []
  whole : {p : Precedence} {a : List Kind} {x : Expr} → Derives labels p a x → Begins labels p a
  in_first : {p : Precedence} {a : List Kind} → is_chain p ≡ true → Begins labels (inner p) a → Begins labels p a
  in_operand : {p : Precedence} (t : Kind) {o : Op} {a b : List Kind} {x : Expr}
      → is_chain p ≡ true → Derives labels p a x → operator p t ≡ Some o → Begins labels (inner p) b
      → Begins labels p (a ++ (t ∷ b))
  in_bare : {p : Precedence} {a : List Kind} → is_prefix p ≡ true → Begins labels (inner p) a → Begins labels p a
  in_signed : {p : Precedence} {t : Kind} {a : List Kind}
      → is_sign p t ≡ true → Begins labels p a → Begins labels p (t ∷ a)
  in_condition : {a : List Kind} → Begins labels rule.Implication a → Begins labels rule.Conditional a
  in_then : {a b : List Kind} {x : Expr}
      → Derives labels rule.Implication a x → Begins labels rule.Implication b
      → Begins labels rule.Conditional (a ++ (k.Query ∷ b))
  in_else : {a b c : List Kind} {x y : Expr}
      → Derives labels rule.Implication a x → Derives labels rule.Implication b y → Begins labels rule.Conditional c
      → Begins labels rule.Conditional (a ++ (k.Query ∷ (b ++ (k.Colon ∷ c))))
  in_parentheses : {a : List Kind} → Begins labels rule.Conditional a → Begins labels rule.Primary (k.Open ∷ a)
  in_function : {t : Kind} {f : Func} → function t ≡ Some f → Begins labels rule.Primary (t ∷ [])
  in_argument : {t : Kind} {f : Func} {a : List Kind}
      → function t ≡ Some f → Begins labels rule.Conditional a → Begins labels rule.Primary (t ∷ (k.Open ∷ a))
  in_further_argument : {t : Kind} {f : Func} {a b c : List Kind} {x : Expr} {ys : List Expr}
      → function t ≡ Some f → takes f (length ys + 1) ≡ true
      → Derives labels rule.Conditional a x → Arguments labels b ys → Begins labels rule.Conditional c
      → Begins labels rule.Primary (t ∷ (k.Open ∷ ((a ++ b) ++ (k.Comma ∷ c))))
