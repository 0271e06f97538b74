-- Chains of arrows.
use Rattle.std.specs.Prelude.{◌≡◌, ◌+◌, ℕ, List, ◌∷◌, ◌++◌, length}
use Rattle.prism_syntax.specs.declared.labels.Labels.{Labels}
use Rattle.prism_syntax.specs.declared.tokens.Kind.{Kind}
use Rattle.prism_syntax.specs.declared.tokens.Kind.TheVariants as k
use Rattle.prism_syntax.specs.declared.expressions.Expr.{Expr}
use Rattle.prism_syntax.specs.declared.expressions.Expr.TheVariants as e
use Rattle.prism_syntax.specs.declared.expressions.Func.{Func}
use Rattle.prism_syntax.specs.declared.expressions.Op.{Op}
use Rattle.prism_syntax.specs.declared.expressions.Op.TheVariants as o
use Rattle.prism_syntax.specs.declared.precedence.Precedence.TheVariants as rule
use Rattle.prism_syntax.specs.Expressions.{Derives}
use Rattle.prism_limits.specs.Words.{EndsInRewards}

-- the token with this index is an arrow of a chain that has an arrow before it: one operand of such a chain, and nothing
-- else, stands between the two, and they stand outside each rewards block
pub record IsLaterArrow (labels : Labels) (tokens : List Kind) (index : ℕ) : Type 0 where
  pub before : List Kind
  pub operand : List Kind
  pub after : List Kind
  pub tree : Expr
  pub cut : tokens ≡ before ++ (k.Implies ∷ (operand ++ (k.Implies ∷ after)))
  pub count : length before + (1 + length operand) ≡ index
  pub text : Derives labels rule.Equivalence operand tree
  pub outside : EndsInRewards before → ⊥

mutual
  -- a chain of the tree has two or more arrows: the tree is a chain whose first two operators are arrows, or a part of
  -- it has such a chain
  pub data HasLongChain : Expr → Type 0 where
    arrows : (xs : List Expr) (os : List Op) → HasLongChain (e.Level xs (o.Imp ∷ (o.Imp ∷ os)))
    in_operand : (xs : List Expr) (os : List Op) → OneHasLongChain xs → HasLongChain (e.Level xs os)
    in_argument : (f : Func) (xs : List Expr) → OneHasLongChain xs → HasLongChain (e.Call f xs)
    in_paren : (x : Expr) → HasLongChain x → HasLongChain (e.Paren x)
    in_not : (x : Expr) → HasLongChain x → HasLongChain (e.Not x)
    in_minus : (x : Expr) → HasLongChain x → HasLongChain (e.Minus x)
    in_condition : (x y z : Expr) → HasLongChain x → HasLongChain (e.If x y z)
    in_consequence : (x y z : Expr) → HasLongChain y → HasLongChain (e.If x y z)
    in_alternative : (x y z : Expr) → HasLongChain z → HasLongChain (e.If x y z)

  -- one of these trees has a chain of two or more arrows
  pub data OneHasLongChain : List Expr → Type 0 where
    in_first : (x : Expr) (xs : List Expr) → HasLongChain x → OneHasLongChain (x ∷ xs)
    in_later : (x : Expr) (xs : List Expr) → OneHasLongChain xs → OneHasLongChain (x ∷ xs)
