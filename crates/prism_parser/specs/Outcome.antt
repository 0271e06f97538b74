-- What parsing tells, with the order of refusals.
use Rattle.std.specs.Prelude.{◌≡◌, ◌⊎◌, ℕ, List, Result, Ok, Err}
use Rattle.prism_syntax.specs.declared.tokens.Kind.{Kind}
use Rattle.prism_syntax.specs.declared.tokens.Token.{Token}
use Rattle.prism_limits.specs.declared.kinds.TextKind.{TextKind}
use Rattle.prism_reading.specs.Reach.{IsPrefix, IsReach}
use Rattle.prism_parser.specs.declared.fault.ParseFault.{ParseFault}
use Rattle.prism_parser.specs.declared.fault.ParseFault.TheVariants.{Unsupported, TooDeep, NotInGrammar, OutOfMemory}
use Rattle.prism_parser.specs.Refusals.{RefusesNesting, RefusesGrammar, IsUnsupported, IsAccepted}

-- the tokens are no text of the rule, and so many of them are left from the first wrong one on
pub record IsNoText {X : Type 0} (Rule : List Kind → X → Type 0) (tokens : List Kind) (left : ℕ) : Type 0 where
  pub none : (tree : X) → Rule tokens tree → ⊥
  pub reach : IsReach (IsPrefix Rule) tokens left

-- memory ran out
abbrev pub RanOut : {X : Type 0} → Result X ParseFault → Type 0
RanOut (Err (OutOfMemory fault)) = Unit {0}
RanOut _ = ⊥

-- the answer is this one exactly where the fact holds, unless memory ran out
pub record ComesWhere {X : Type 0} (answer : Result X ParseFault) (this : Result X ParseFault) (Fact : Type 0) : Type 0 where
  pub only : answer ≡ this → Fact
  pub always : Fact → (answer ≡ this) ⊎ RanOut answer

-- an answer is true of the tokens; out of memory tells nothing
abbrev pub Tells : {X : Type 0} → TextKind → (X → Type 0) → (X → Type 0) → (ℕ → Type 0)
    → List Token → ℕ → Result X ParseFault → Type 0
Tells text Found Long Failed tokens start (Ok tree) = IsAccepted text Found Long tokens start tree
Tells text Found Long Failed tokens start (Err (Unsupported word at)) = IsUnsupported text Found Long tokens start word at
Tells text Found Long Failed tokens start (Err (TooDeep at)) = RefusesNesting text tokens start at
Tells text Found Long Failed tokens start (Err (NotInGrammar at)) = RefusesGrammar text Failed tokens start at
Tells text Found Long Failed tokens start (Err (OutOfMemory fault)) = Unit {0}
