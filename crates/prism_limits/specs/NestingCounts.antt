-- What is counted of the tokens before a place.
use Rattle.std.specs.Prelude.{◌≡◌, ℕ, ◌+◌, ◌<◌, ◌^◌, List, count_by, not, nat_le, Bool, true, false}
use Rattle.std.specs.List.{suffix_len, take_while}
use mathlib.Core.List.{reverse}
use Rattle.prism_syntax.specs.declared.tokens.Kind.{Kind}
use Rattle.prism_syntax.specs.declared.tokens.Kind.TheVariants as k
use Rattle.prism_limits.specs.declared.kinds.TextKind.{TextKind}
use Rattle.prism_limits.specs.declared.kinds.TextKind.TheVariants.{Nested}
use Rattle.prism_limits.specs.declared.nesting.NestingCounts.{NestingCounts}
use Rattle.prism_limits.specs.Nesting.{is_opening, is_closing, is_opening_bracket, is_closing_bracket, is_query, bracket_limit}

-- a `!`
abbrev pub is_bang : Kind → Bool
is_bang k.Bang = true
is_bang _ = false

-- a `-`
abbrev pub is_dash : Kind → Bool
is_dash k.Dash = true
is_dash _ = false

-- a `;`
abbrev pub is_semicolon : Kind → Bool
is_semicolon k.Semicolon = true
is_semicolon _ = false

-- how many `?` stand after the last `;`, or in all tokens where there is none
abbrev pub queries_at_end : List Kind → ℕ
queries_at_end tokens = count_by is_query (take_while (λ t. not (is_semicolon t)) (reverse tokens))

-- the square brackets that are open in a nested formula are as many as may be
abbrev pub are_brackets_full : TextKind → ℕ → Bool
are_brackets_full Nested more = nat_le bracket_limit more
are_brackets_full _ more = false

-- these are the counts of the tokens: the parentheses and square brackets among all of them, the signs in a row at their
-- end, and the `?` since the last `;`
pub record AreCountsOf (counts : NestingCounts) (tokens : List Kind) : Type 0 where
  pub opened : counts.opened ≡ count_by is_opening tokens
  pub closed : counts.closed ≡ count_by is_closing tokens
  pub opened_brackets : counts.opened_brackets ≡ count_by is_opening_bracket tokens
  pub closed_brackets : counts.closed_brackets ≡ count_by is_closing_bracket tokens
  pub bangs : counts.bangs ≡ suffix_len is_bang tokens
  pub dashes : counts.dashes ≡ suffix_len is_dash tokens
  pub queries : counts.queries ≡ queries_at_end tokens

-- each count can rise by one
pub record HasRoom (counts : NestingCounts) : Type 0 where
  pub opened : counts.opened + 1 < 2 ^ 64
  pub closed : counts.closed + 1 < 2 ^ 64
  pub opened_brackets : counts.opened_brackets + 1 < 2 ^ 64
  pub closed_brackets : counts.closed_brackets + 1 < 2 ^ 64
  pub bangs : counts.bangs + 1 < 2 ^ 64
  pub dashes : counts.dashes + 1 < 2 ^ 64
  pub queries : counts.queries + 1 < 2 ^ 64
