-- What some tokens may not have, in one place.
use Rattle.std.specs.Prelude.{ℕ, List}
use Rattle.prism_syntax.specs.declared.labels.Labels.{Labels}
use Rattle.prism_syntax.specs.declared.tokens.Kind.{Kind}
use Rattle.prism_limits.specs.declared.kinds.TextKind.{TextKind}
use Rattle.prism_limits.specs.Words.{HasRefusedWord}
use Rattle.prism_limits.specs.Nesting.{IsTooDeep}
use Rattle.prism_limits.specs.Arrows.{IsLaterArrow}

-- what is looked for: a word that is refused by name, a token that is nested too deep, a later arrow of a chain
pub data Limit : Type 0 where
  word : TextKind → Limit
  nesting : TextKind → Limit
  chain : Labels → Limit

-- the token with this index is past the limit
abbrev pub IsPast : Limit → List Kind → ℕ → Type 0
IsPast (word text) tokens index = HasRefusedWord text tokens index
IsPast (nesting text) tokens index = IsTooDeep text tokens index
IsPast (chain labels) tokens index = IsLaterArrow labels tokens index
