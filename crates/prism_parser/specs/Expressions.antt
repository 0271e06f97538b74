-- The expression that stands from a token's index on.
use Rattle.std.specs.Prelude.{◌≡◌, ◌+◌, ◌≤◌, ℕ, List, ◌++◌, drop, length}
use Rattle.prism_syntax.specs.declared.labels.Labels.TheVariants.{Allowed}
use Rattle.prism_syntax.specs.declared.tokens.Kind.{Kind}
use Rattle.prism_syntax.specs.declared.tokens.Token.{Token}
use Rattle.prism_syntax.specs.declared.expressions.Expr.{Expr}
use Rattle.prism_syntax.specs.Tokens.{kinds}
use Rattle.prism_syntax.specs.Expressions.{IsExpr}
use Rattle.prism_reading.specs.Reading.{Anything, Fails}
use Rattle.prism_limits.specs.Arrows.{HasLongChain}

-- from the token with this index on, the longest prefix that is an expression has this tree, and this is the index of
-- the token after it
pub record FindsExpression (tokens : List Token) (start : ℕ) (found : Expr × ℕ) : Type 0 where
  pub prefix : List Kind
  pub rest : List Kind
  pub cut : kinds (drop start tokens) ≡ prefix ++ rest
  pub text : IsExpr Allowed prefix found.0
  pub longest : (other after : List Kind) (tree : Expr)
      → kinds (drop start tokens) ≡ other ++ after → IsExpr Allowed other tree → length rest ≤ length after
  pub next : found.1 ≡ start + length prefix

-- a chain of the tree has two or more arrows
abbrev pub HasLong : Expr × ℕ → Type 0
HasLong found = HasLongChain found.0

-- from the token with this index on, no prefix is an expression, and so many tokens are left from the first wrong one
-- on
abbrev pub BeginsNoExpression : List Token → ℕ → ℕ → Type 0
BeginsNoExpression tokens start left = Fails (IsExpr Allowed) Anything (drop start tokens) left
