-- No expression has a `'` or a `;` in it.
use Rattle.std.proofs.Common.{◌≡◌, List, [], ◌∷◌, ◌++◌, true, Some, subst}
use Rattle.prism_syntax.specs.declared.labels.Labels.TheVariants.{Refused}
use Rattle.prism_syntax.specs.declared.tokens.Kind.{Kind}
use Rattle.prism_syntax.specs.declared.tokens.Kind.TheVariants as k
use Rattle.prism_syntax.specs.declared.expressions.Expr.{Expr}
use Rattle.prism_syntax.specs.declared.expressions.Func.{Func}
use Rattle.prism_syntax.specs.declared.expressions.Op.{Op}
use Rattle.prism_syntax.specs.declared.precedence.Precedence.{Precedence}
use Rattle.prism_syntax.specs.declared.precedence.Precedence.TheVariants as rule
use Rattle.prism_syntax.specs.Precedence.{operator, is_sign, atom, function}
use Rattle.prism_syntax.specs.Expressions.{Derives, ChainTail, Arguments, IsExpr}
use Rattle.prism_syntax.specs.Expressions.Derives.{chain, bare, sign, plain, conditional, leaf, paren, call}
use Rattle.prism_syntax.specs.Expressions.ChainTail.{end, link}
use Rattle.prism_syntax.specs.Expressions.Arguments.{last, argument}

-- the token is not among the tokens
abbrev pub Lacks : Kind → List Kind → Type 0
Lacks t [] = Unit {0}
Lacks t (s ∷ ss) = (s ≡ t → ⊥) × Lacks t ss

-- what is in neither part is not in both
lacks_append : (t : Kind) (a b : List Kind) → Lacks t a → Lacks t b → Lacks t (a ++ b)
lacks_append t [] b left right = right
lacks_append t (s ∷ ss) b left right = (left.0, lacks_append t ss b left.1 right)

-- a token that no level of expressions has
pub record IsForeign (t : Kind) : Type 0 where
  pub operators : (l : Precedence) (o : Op) → operator l t ≡ Some o → ⊥
  pub signs : (l : Precedence) → is_sign l t ≡ true → ⊥
  pub atoms : (x : Expr) → atom Refused t ≡ Some x → ⊥
  pub functions : (f : Func) → function t ≡ Some f → ⊥
  pub query : k.Query ≡ t → ⊥
  pub colon : k.Colon ≡ t → ⊥
  pub opens : k.Open ≡ t → ⊥
  pub closes : k.Close ≡ t → ⊥
  pub comma : k.Comma ≡ t → ⊥

mutual
  -- no text of a level has a foreign token
  lacks_text : (t : Kind) (foreign : IsForeign t) (l : Precedence) (a : List Kind) (x : Expr) → Derives Refused l a x → Lacks t a
  lacks_text t foreign l _ _ (chain {a = a} {b = b} {x = x} {ys = ys} {os = os} is text links) = lacks_append t a b (lacks_text t foreign _ a x text) (lacks_tail t foreign l b ys os links)
  lacks_text t foreign l a x (bare is text) = lacks_text t foreign _ a x text
  lacks_text t foreign l _ _ (sign {a = a} {x = x} is text) = (λ same. foreign.signs l (subst (λ s. is_sign l s ≡ true) same is), lacks_text t foreign l a x text)
  lacks_text t foreign _ a x (plain text) = lacks_text t foreign _ a x text
  lacks_text t foreign _ _ _ (conditional {a = a} {b = b} {c = c} {x = x} {y = y} {z = z} first second third) =
      lacks_append t a _ (lacks_text t foreign _ a x first)
      (foreign.query, lacks_append t b _ (lacks_text t foreign _ b y second) (foreign.colon, lacks_text t foreign _ c z third))
  lacks_text t foreign _ _ x (leaf is) = (λ same. foreign.atoms x (subst (λ s. atom Refused s ≡ Some x) same is), tt)
  lacks_text t foreign _ _ _ (paren {a = a} {x = x} text) = (foreign.opens, lacks_append t a _ (lacks_text t foreign _ a x text) (foreign.closes, tt))
  lacks_text t foreign _ _ _ (call {f = f} {a = a} {b = b} {x = x} {ys = ys} is takes text parts) = (
    λ same. foreign.functions f (subst (λ s. function s ≡ Some f) same is),
    (foreign.opens, lacks_append t a _ (lacks_text t foreign _ a x text) (lacks_append t b _ (lacks_arguments t foreign b ys parts) (foreign.closes, tt))),
  )

  -- nor have further operands
  lacks_tail : (t : Kind) (foreign : IsForeign t) (l : Precedence) (a : List Kind) (ys : List Expr) (os : List Op) → ChainTail Refused l a ys os → Lacks t a
  lacks_tail t foreign l _ _ _ end = tt
  lacks_tail t foreign l _ _ _ (link {o = o} {a = a} {b = b} {y = y} {ys = ys} {os = os} is text links) =
      (λ same. foreign.operators l o (subst (λ s. operator l s ≡ Some o) same is), lacks_append t a b (lacks_text t foreign _ a y text) (lacks_tail t foreign l b ys os links))

  -- nor have further arguments of a call
  lacks_arguments : (t : Kind) (foreign : IsForeign t) (a : List Kind) (ys : List Expr) → Arguments Refused a ys → Lacks t a
  lacks_arguments t foreign _ _ last = tt
  lacks_arguments t foreign _ _ (argument {a = a} {b = b} {y = y} {ys = ys} text parts) =
      (foreign.comma, lacks_append t a b (lacks_text t foreign _ a y text) (lacks_arguments t foreign b ys parts))

-- `'` is no operator
prime_operates : (l : Precedence) (o : Op) → operator l k.Prime ≡ Some o → ⊥
prime_operates rule.Conditional o is = absurd cc
prime_operates rule.Implication o is = absurd cc
prime_operates rule.Equivalence o is = absurd cc
prime_operates rule.Disjunction o is = absurd cc
prime_operates rule.Conjunction o is = absurd cc
prime_operates rule.Negation o is = absurd cc
prime_operates rule.Equality o is = absurd cc
prime_operates rule.Relation o is = absurd cc
prime_operates rule.Sum o is = absurd cc
prime_operates rule.Product o is = absurd cc
prime_operates rule.Unary o is = absurd cc
prime_operates rule.Primary o is = absurd cc

-- `'` is no sign
prime_signs : (l : Precedence) → is_sign l k.Prime ≡ true → ⊥
prime_signs rule.Negation is = absurd cc
prime_signs rule.Unary is = absurd cc
prime_signs _ is = absurd cc

-- `;` is no operator
semicolon_operates : (l : Precedence) (o : Op) → operator l k.Semicolon ≡ Some o → ⊥
semicolon_operates rule.Conditional o is = absurd cc
semicolon_operates rule.Implication o is = absurd cc
semicolon_operates rule.Equivalence o is = absurd cc
semicolon_operates rule.Disjunction o is = absurd cc
semicolon_operates rule.Conjunction o is = absurd cc
semicolon_operates rule.Negation o is = absurd cc
semicolon_operates rule.Equality o is = absurd cc
semicolon_operates rule.Relation o is = absurd cc
semicolon_operates rule.Sum o is = absurd cc
semicolon_operates rule.Product o is = absurd cc
semicolon_operates rule.Unary o is = absurd cc
semicolon_operates rule.Primary o is = absurd cc

-- `;` is no sign
semicolon_signs : (l : Precedence) → is_sign l k.Semicolon ≡ true → ⊥
semicolon_signs rule.Negation is = absurd cc
semicolon_signs rule.Unary is = absurd cc
semicolon_signs _ is = absurd cc

-- no expression has a `'`
pub no_prime : (a : List Kind) (x : Expr) → IsExpr Refused a x → Lacks k.Prime a
no_prime a x text = lacks_text k.Prime (record {
  operators = prime_operates;
  signs = prime_signs;
  atoms = λ x is. absurd cc;
  functions = λ f is. absurd cc;
  query = λ is. absurd cc;
  colon = λ is. absurd cc;
  opens = λ is. absurd cc;
  closes = λ is. absurd cc;
  comma = λ is. absurd cc;
}) rule.Conditional a x text

-- no expression has a `;`
pub no_semicolon : (a : List Kind) (x : Expr) → IsExpr Refused a x → Lacks k.Semicolon a
no_semicolon a x text = lacks_text k.Semicolon (record {
  operators = semicolon_operates;
  signs = semicolon_signs;
  atoms = λ x is. absurd cc;
  functions = λ f is. absurd cc;
  query = λ is. absurd cc;
  colon = λ is. absurd cc;
  opens = λ is. absurd cc;
  closes = λ is. absurd cc;
  comma = λ is. absurd cc;
}) rule.Conditional a x text
