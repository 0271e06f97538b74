-- What parsing by a rule of the grammar tells: a text that the tokens begin with, or that there is none, and how far
-- they begin one.
use Rattle.std.specs.Prelude.{◌≡◌, ℕ, List, ◌++◌, Result, Ok, Err}
use Rattle.prism_syntax.specs.declared.tokens.Kind.{Kind}
use Rattle.prism_syntax.specs.declared.tokens.Token.{Token}
use Rattle.prism_syntax.specs.Tokens.{kinds}
use Rattle.prism_reading.specs.declared.mismatch.Mismatch.{Mismatch}
use Rattle.prism_reading.specs.declared.mismatch.Mismatch.TheVariants.{NoText, OutOfMemory}
use Rattle.prism_reading.specs.Reach.{IsPrefix, IsReach}

-- whatever follows
abbrev pub Anything : List Kind → Type 0
Anything after = Unit {0}

-- the tokens begin with a text of the rule, with this tree, and such tokens follow it; so many of all tokens are left
-- from the first wrong one on
pub record Parses {X : Type 0} (Rule : List Kind → X → Type 0) (Follows : List Kind → Type 0) (tokens : List Token) (tree : X) (rest : List Token) (left : ℕ) : Type 0 where
  pub prefix : List Token
  pub cut : tokens ≡ prefix ++ rest
  pub text : Rule (kinds prefix) tree
  pub follows : Follows (kinds rest)
  pub reach : IsReach (IsPrefix Rule) (kinds tokens) left

-- no prefix of the tokens is a text of the rule that such tokens follow; so many of all tokens are left from the first
-- wrong one on
pub record Fails {X : Type 0} (Rule : List Kind → X → Type 0) (Follows : List Kind → Type 0) (tokens : List Token) (left : ℕ) : Type 0 where
  pub none : (prefix after : List Kind) (tree : X) → kinds tokens ≡ prefix ++ after → Rule prefix tree → Follows after → ⊥
  pub reach : IsReach (IsPrefix Rule) (kinds tokens) left

-- an answer that is given has the one property, a mismatch the other; out of memory tells nothing
abbrev pub Answers : {T : Type 0} → (T → Type 0) → (ℕ → Type 0) → Result T Mismatch → Type 0
Answers Parsed Failed (Ok value) = Parsed value
Answers Parsed Failed (Err (NoText left)) = Failed left
Answers Parsed Failed (Err (OutOfMemory fault)) = Unit {0}
