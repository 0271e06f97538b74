-- How far a word, a number or a quoted name goes at the front of a text, found byte by byte.
use Rattle.std.specs.Prelude.{ℕ, ◌+◌, ◌==◌, ◌&&◌, ◌||◌, nat_lt, Bool, false, if◌then◌else◌, List, [], ◌∷◌, drop, Option, Some, None}
use Rattle.std.specs.List.{prefix_len}
use Rattle.std.specs.Char.{is_ascii_digit}
use Rattle.prism_syntax.specs.Spelling.{begins_word}
use Rattle.prism_syntax.specs.Tokens.{goes_on_word}
use Rattle.prism_lexer.specs.declared.lexeme.Lexeme.{Lexeme}
use Rattle.prism_lexer.specs.declared.lexeme.Lexeme.TheVariants as lexeme

-- how many digits begin a text
abbrev pub digits_len : List ℕ → ℕ
digits_len text = prefix_len is_ascii_digit text

-- how long a fraction begins a text: a point and digits
unfoldable pub fraction_len : List ℕ → ℕ
fraction_len [] = 0
fraction_len (c ∷ cs) = if c == 46 && nat_lt 0 (digits_len cs) then 1 + digits_len cs else 0

-- one byte of `+` or `-`, or none
unfoldable pub sign_len : List ℕ → ℕ
sign_len [] = 0
sign_len (c ∷ cs) = if c == 43 || c == 45 then 1 else 0

-- how long an exponent begins a text: `e` or `E`, a sign or none, and digits
unfoldable pub exponent_len : List ℕ → ℕ
exponent_len [] = 0
exponent_len (c ∷ cs) =
    if (c == 101 || c == 69) && nat_lt 0 (digits_len (drop (sign_len cs) cs))
    then 1 + sign_len cs + digits_len (drop (sign_len cs) cs) else 0

-- a number, of which so many bytes are digits, a fraction and an exponent
abbrev pub number_of : ℕ → ℕ → ℕ → Option (Lexeme × ℕ)
number_of digits fraction exponent =
    if digits + fraction == 0 then None
    else Some ((if fraction + exponent == 0 then lexeme.Whole else lexeme.Real), digits + fraction + exponent)

-- the number that begins a text
unfoldable pub number_at : List ℕ → Option (Lexeme × ℕ)
number_at text =
    let after = drop (digits_len text) text in
    number_of (digits_len text) (fraction_len after) (exponent_len (drop (fraction_len after) after))

-- how long a name or a reserved word begins a text
unfoldable pub word_len : List ℕ → ℕ
word_len [] = 0
word_len (c ∷ cs) = if begins_word c then prefix_len goes_on_word (c ∷ cs) else 0

-- a text begins with `"`
abbrev pub begins_quote : List ℕ → Bool
begins_quote [] = false
begins_quote (c ∷ cs) = c == 34

-- the quoted name whose first `"` stands before a text
unfoldable pub quoted_at : List ℕ → Option (Lexeme × ℕ)
quoted_at text = if nat_lt 0 (word_len text) && begins_quote (drop (word_len text) text) then Some (lexeme.Quoted, word_len text + 2) else None

-- the quoted name, word or number that begins a text
unfoldable pub varied_at : List ℕ → Option (Lexeme × ℕ)
varied_at [] = None
varied_at (c ∷ cs) =
    if c == 34 then quoted_at cs
    else (if nat_lt 0 (word_len (c ∷ cs)) then Some (lexeme.Word, word_len (c ∷ cs)) else number_at (c ∷ cs))
