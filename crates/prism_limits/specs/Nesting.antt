-- Tokens at which a text is nested too deep.
use Rattle.std.specs.Prelude.{◌≡◌, ◌+◌, ◌≤◌, ℕ, List, ◌++◌, All, count_by, replicate, Bool, true, false}
use Rattle.prism_syntax.specs.declared.tokens.Kind.{Kind}
use Rattle.prism_syntax.specs.declared.tokens.Kind.TheVariants as k
use Rattle.prism_limits.specs.declared.kinds.TextKind.{TextKind}
use Rattle.prism_limits.specs.declared.kinds.TextKind.TheVariants.{Nested}
use Rattle.prism_limits.specs.Places.{StandsAt}

-- an opening parenthesis
abbrev pub is_opening : Kind → Bool
is_opening k.Open = true
is_opening _ = false

-- a closing parenthesis
abbrev pub is_closing : Kind → Bool
is_closing k.Close = true
is_closing _ = false

-- an opening square bracket
abbrev pub is_opening_bracket : Kind → Bool
is_opening_bracket k.OpenBracket = true
is_opening_bracket _ = false

-- a closing square bracket
abbrev pub is_closing_bracket : Kind → Bool
is_closing_bracket k.CloseBracket = true
is_closing_bracket _ = false

-- a `?`
abbrev pub is_query : Kind → Bool
is_query k.Query = true
is_query _ = false

-- `!` or `-`
abbrev pub is_sign : Kind → Bool
is_sign k.Bang = true
is_sign k.Dash = true
is_sign _ = false

-- the most parentheses that may be open at once, and the most signs of one kind that may stand in a row
abbrev pub nesting_limit : ℕ
nesting_limit = 64

-- the most square brackets that may be open at once in a nested formula
abbrev pub bracket_limit : ℕ
bracket_limit = 17

-- the most `?` that may stand with no `;` between them
abbrev pub query_limit : ℕ
query_limit = 1024

-- after these tokens a token is one too many: the parentheses opened before it are as many more than the closed ones as
-- may be, or as many signs of its kind as may be stand right before it, or as many `?` as may be since the last `;`; in
-- a nested formula also where the square brackets opened before it are as many more than the closed ones as may be
pub data IsTooMany (text : TextKind) : List Kind → Kind → Type 0 where
  parenthesis : (before : List Kind) → nesting_limit + count_by is_closing before ≤ count_by is_opening before → IsTooMany text before k.Open
  sign : (before : List Kind) (token : Kind) → is_sign token ≡ true → IsTooMany text (before ++ replicate nesting_limit token) token
  query : (before since : List Kind) → All (λ token. token ≡ k.Semicolon → ⊥) since → query_limit ≤ count_by is_query since → IsTooMany text (before ++ since) k.Query
  bracket : (before : List Kind) → text ≡ Nested → bracket_limit + count_by is_closing_bracket before ≤ count_by is_opening_bracket before → IsTooMany text before k.OpenBracket

-- at the token with this index the text is nested too deep
pub record IsTooDeep (text : TextKind) (tokens : List Kind) (index : ℕ) : Type 0 where
  pub before : List Kind
  pub token : Kind
  pub after : List Kind
  pub stands : StandsAt tokens index before token after
  pub too_many : IsTooMany text before token
