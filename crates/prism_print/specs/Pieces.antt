-- What a text is laid out of, and its bytes.
use Rattle.std.specs.Prelude.{ℕ, List, [], ◌∷◌, ◌++◌, Option, Some, None, decimal, flat_map, filter_map, unsigned_abs, unwrap_or}
use Rattle.prism_syntax.specs.declared.tokens.Kind.{Kind}
use Rattle.prism_syntax.specs.declared.tokens.Kind.TheVariants as k
use Rattle.prism_syntax.specs.Spelling.{spelling_of}
use Rattle.prism_print.specs.Decimals.{point_decimal}

-- a token, a blank, or the end of a line
pub data Piece : Type 0 where
  token : Kind → Piece
  blank : Piece
  line_end : Piece

-- the bytes of a token: those of its name or its number, or of its symbol or reserved word
abbrev pub spelled : Kind → List ℕ
spelled (k.Name text) = text
spelled (k.Quoted text) = 34 ∷ (text ++ (34 ∷ []))
spelled (k.Whole value) = decimal (unsigned_abs value.num)
spelled (k.Real value) = point_decimal value
spelled kind = unwrap_or (spelling_of kind) []

-- the bytes of a piece
abbrev pub bytes_of : Piece → List ℕ
bytes_of (token kind) = spelled kind
bytes_of blank = 32 ∷ []
bytes_of line_end = 10 ∷ []

-- the text of some pieces, one after another
abbrev pub text_of : List Piece → List ℕ
text_of pieces = flat_map bytes_of pieces

-- the token that a piece is
abbrev pub token_of : Piece → Option Kind
token_of (token kind) = Some kind
token_of blank = None
token_of line_end = None

-- the tokens among some pieces
abbrev pub tokens_of : List Piece → List Kind
tokens_of pieces = filter_map token_of pieces
