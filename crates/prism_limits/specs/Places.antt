-- Where something stands in a list of tokens.
use Rattle.std.specs.Prelude.{◌≡◌, ◌<◌, ℕ, List, ◌∷◌, ◌++◌, length, Option, Some, None}
use Rattle.prism_syntax.specs.declared.tokens.Kind.{Kind}

-- a token with as many tokens before it as its index says, and the tokens before and after it
pub record StandsAt (tokens : List Kind) (index : ℕ) (before : List Kind) (token : Kind) (after : List Kind) : Type 0 where
  pub cut : tokens ≡ before ++ (token ∷ after)
  pub count : length before ≡ index

-- the least index that has a property
pub record IsFirst (Has : ℕ → Type 0) (index : ℕ) : Type 0 where
  pub has : Has index
  pub least : (other : ℕ) → other < index → Has other → ⊥

-- the first index that has a property, or none where no index has it
abbrev pub Finds : (ℕ → Type 0) → Option ℕ → Type 0
Finds Has (Some index) = IsFirst Has index
Finds Has None = (index : ℕ) → Has index → ⊥
