-- The place of a token in the text.
use Rattle.std.specs.Prelude.{ℕ, ◌-◌, List, length, Option, Some, None, slice_get}
use Rattle.prism_syntax.specs.declared.tokens.Token.{Token}

-- the place after a token, or 0 where there is none
abbrev pub place_after : Option Token → ℕ
place_after (Some token) = token.to
place_after None = 0

-- the place after the last token, or 0 where there is none
abbrev pub end_of : List Token → ℕ
end_of tokens = place_after (slice_get tokens (length tokens - 1))

-- the place of a token, or else this end
abbrev pub place_or : ℕ → Option Token → ℕ
place_or end (Some token) = token.from
place_or end None = end

-- the place of the token with this index; past the last token it is the end of the text
abbrev pub place_of : List Token → ℕ → ℕ
place_of tokens index = place_or (end_of tokens) (slice_get tokens index)
