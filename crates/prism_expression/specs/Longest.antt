-- What parsing an expression tells: the longest text of a level that the tokens begin with.
use Rattle.std.specs.Prelude.{◌≡◌, ℕ, ◌≤◌, List, ◌++◌, length}
use Rattle.prism_syntax.specs.declared.labels.Labels.{Labels}
use Rattle.prism_syntax.specs.declared.tokens.Kind.{Kind}
use Rattle.prism_syntax.specs.declared.tokens.Token.{Token}
use Rattle.prism_syntax.specs.declared.expressions.Expr.{Expr}
use Rattle.prism_syntax.specs.declared.precedence.Precedence.{Precedence}
use Rattle.prism_syntax.specs.Tokens.{kinds}
use Rattle.prism_syntax.specs.Expressions.{Derives}
use Rattle.prism_reading.specs.Reading.{Anything, Parses}

-- the tokens begin with a text of the rule, and no text of it leaves fewer tokens; so many of all tokens are left from
-- the first wrong one on
pub record IsLongest {X : Type 0} (Rule : List Kind → X → Type 0) (tokens : List Token) (tree : X) (rest : List Token) (left : ℕ) : Type 0 where
  pub parses : Parses Rule Anything tokens tree rest left
  pub longest : (prefix after : List Kind) (other : X) → kinds tokens ≡ prefix ++ after → Rule prefix other → length rest ≤ length after

-- the longest text of a level
abbrev pub ParsesLongest : Labels → Precedence → List Token → Expr → List Token → ℕ → Type 0
ParsesLongest labels level = IsLongest (Derives labels level)
