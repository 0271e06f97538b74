-- What is known at a place of a walk that looks for later arrows.
use Rattle.std.specs.Prelude.{◌≡◌, ◌↔◌, ℕ, List, [], ◌∷◌, ◌++◌, length, All, IfSome, IsTrue, Bool, true}
use Rattle.prism_syntax.specs.declared.labels.Labels.{Labels}
use Rattle.prism_syntax.specs.declared.tokens.Kind.{Kind}
use Rattle.prism_syntax.specs.declared.tokens.Kind.TheVariants as k
use Rattle.prism_syntax.specs.declared.expressions.Expr.{Expr}
use Rattle.prism_syntax.specs.declared.precedence.Precedence.TheVariants as rule
use Rattle.prism_syntax.specs.Expressions.{Derives}
use Rattle.prism_limits.specs.Words.{EndsInRewards}
use Rattle.prism_limits.specs.Arrows.{IsLaterArrow}
use Rattle.prism_limits.specs.ChainWalk.{Place, walk, start, begins_arrow}

-- an arrow with this index stands among the tokens, outside each rewards block
pub record HasArrowAt (tokens : List Kind) (index : ℕ) : Type 0 where
  pub before : List Kind
  pub after : List Kind
  pub cut : tokens ≡ before ++ (k.Implies ∷ after)
  pub count : length before ≡ index
  pub outside : EndsInRewards before → ⊥

-- after these tokens the walk is at this place, and what it keeps are indexes of arrows
pub record IsAt (place : Place) (before : List Kind) : Type 0 where
  pub walked : place ≡ walk start 0 before
  pub last : IfSome place.last (HasArrowAt before)
  pub around : All (λ one. IfSome one (HasArrowAt before)) place.around

-- an answer tells whether the tokens before an arrow are one operand of a chain of arrows
abbrev pub TellsOperand : Labels → List Kind → List Kind → Bool → Type 0
TellsOperand labels tokens rest answer = (operand : List Kind) → tokens ≡ operand ++ rest → begins_arrow rest ≡ true
    → (IsTrue answer ↔ ((tree : Expr) × Derives labels rule.Equivalence operand tree))

-- an answer tells whether the token after these ones is a later arrow
abbrev pub TellsLater : Labels → Place → List Kind → List Kind → Bool → Type 0
TellsLater labels place tokens rest answer = (before : List Kind) → IsAt place before → tokens ≡ before ++ rest
    → (IsTrue answer ↔ IsLaterArrow labels tokens (length before))
