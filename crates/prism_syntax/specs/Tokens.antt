-- What a token is, and how a text is cut into tokens.
use Rattle.std.specs.Prelude.{◌≡◌, ℕ, ◌+◌, ◌≤◌, ◌==◌, ◌||◌, ◌&&◌, not, ℤ, pos, List, [], ◌∷◌, ◌++◌, length, map, IsTrue, Bool, true, false, Option, Some, None, Result, Ok, Err}
use Rattle.std.specs.Char.{is_ascii_alphanumeric}
use Rattle.std.specs.List.{list_all}
use Rattle.std.specs.Str.Parse.{IsNumeral}
use Rattle.smc_num.specs.declared.fault.ReadNum.{ReadNum}
use Rattle.smc_num.specs.Fraction.{Fraction}
use Rattle.smc_num.specs.Spelling.{IsSpelled, decimal, value_of}
use Rattle.prism_syntax.specs.declared.tokens.Kind.{Kind}
use Rattle.prism_syntax.specs.declared.tokens.Kind.TheVariants as k
use Rattle.prism_syntax.specs.declared.tokens.Token.{Token}
use Rattle.prism_syntax.specs.Spelling.{spelling_of, begins_word, is_symbol}

-- a letter, a digit or `_`
abbrev pub goes_on_word : ℕ → Bool
goes_on_word c = is_ascii_alphanumeric c || c == 95

-- a letter or `_`, then letters, digits and `_`
abbrev pub is_word : List ℕ → Bool
is_word [] = false
is_word (c ∷ cs) = begins_word c && list_all goes_on_word cs

-- a text that is a name or a reserved word
abbrev pub IsWord : List ℕ → Type 0
IsWord text = IsTrue (is_word text)

-- no symbol and no reserved word is spelled so
abbrev pub IsFree : List ℕ → Type 0
IsFree bytes = (kind : Kind) → spelling_of kind ≡ Some bytes → ⊥

-- the reserved word that a text is
pub record IsReservedWord (text : List ℕ) (kind : Kind) : Type 0 where
  pub spelling : spelling_of kind ≡ Some text
  pub word : is_symbol kind ≡ false

-- no reserved word is spelled so
abbrev pub IsNotReserved : List ℕ → Type 0
IsNotReserved text = (kind : Kind) → IsReservedWord text kind → ⊥

-- the longest symbol with which a text begins
pub record IsLongestSymbol (text : List ℕ) (kind : Kind) : Type 0 where
  pub bytes : List ℕ
  pub after : List ℕ
  pub symbol : is_symbol kind ≡ true
  pub spelling : spelling_of kind ≡ Some bytes
  pub cut : text ≡ bytes ++ after
  pub longest : (other : Kind) (front rest : List ℕ) → is_symbol other ≡ true → spelling_of other ≡ Some front
      → text ≡ front ++ rest → length front ≤ length bytes

-- a text that begins with no symbol
abbrev pub BeginsNoSymbol : List ℕ → Type 0
BeginsNoSymbol text = (kind : Kind) (bytes after : List ℕ) → is_symbol kind ≡ true → spelling_of kind ≡ Some bytes
    → text ≡ bytes ++ after → ⊥

-- the kind of a number that has a value; one that is too wide has none
abbrev pub number_kind : (Fraction → Kind) → Result Fraction ReadNum → Option Kind
number_kind make (Ok value) = Some (make value)
number_kind make (Err fault) = None

-- these bytes are one token, of this kind; a number that is too wide is a token of no kind
pub data IsToken : List ℕ → Option Kind → Type 0 where
  fixed : (bytes : List ℕ) (kind : Kind) → spelling_of kind ≡ Some bytes → IsToken bytes (Some kind)
  name : (bytes : List ℕ) → IsWord bytes → IsFree bytes → IsToken bytes (Some (k.Name bytes))
  quoted : (bytes : List ℕ) → IsWord bytes → IsToken (34 ∷ (bytes ++ (34 ∷ []))) (Some (k.Quoted bytes))
  whole : (digits : List ℕ) → IsNumeral 10 digits
      → IsToken digits (number_kind k.Whole (value_of false (decimal digits (pos 0))))
  real : (bytes digits : List ℕ) (power : ℤ) → IsSpelled bytes (decimal digits power) → (IsNumeral 10 bytes → ⊥)
      → IsToken bytes (number_kind k.Real (value_of false (decimal digits power)))

-- the longest token at the front of a text: its bytes and kind, and what follows it
pub record IsFirstToken (text bytes : List ℕ) (kind : Option Kind) (rest : List ℕ) : Type 0 where
  pub cut : text ≡ bytes ++ rest
  pub token : IsToken bytes kind
  pub longest : (front after : List ℕ) (other : Option Kind) → text ≡ front ++ after → IsToken front other
      → length rest ≤ length after

-- a space, a tab, a line feed, a carriage return or a form feed
abbrev pub is_blank : ℕ → Bool
is_blank c = c == 32 || (c == 9 || (c == 10 || (c == 13 || c == 12)))

-- a text without a line feed
abbrev pub is_one_line : List ℕ → Bool
is_one_line text = list_all (λ c. not (c == 10)) text

-- a text that does not begin with `//`
abbrev pub BeginsNoComment : List ℕ → Type 0
BeginsNoComment text = (rest : List ℕ) → text ≡ 47 ∷ (47 ∷ rest) → ⊥

-- the end of the text, or a line feed
abbrev pub EndsLine : List ℕ → Type 0
EndsLine [] = Unit {0}
EndsLine (c ∷ cs) = c ≡ 10

-- from the place `at` on, the text is cut into these tokens up to the place `end`, where `rest` is left
pub data Reads : ℕ → List ℕ → List Token → ℕ → List ℕ → Type 0 where
  done : (at : ℕ) (text : List ℕ) → Reads at text [] at text
  blank : (at c : ℕ) (text : List ℕ) (tokens : List Token) (end : ℕ) (rest : List ℕ)
      → IsTrue (is_blank c) → Reads (at + 1) text tokens end rest → Reads at (c ∷ text) tokens end rest
  comment : (at : ℕ) (line text : List ℕ) (tokens : List Token) (end : ℕ) (rest : List ℕ)
      → IsTrue (is_one_line line) → EndsLine text → Reads (at + (2 + length line)) text tokens end rest
      → Reads at (47 ∷ (47 ∷ (line ++ text))) tokens end rest
  token : (at : ℕ) (text bytes : List ℕ) (kind : Kind) (after : List ℕ) (tokens : List Token) (end : ℕ) (rest : List ℕ)
      → BeginsNoComment text → IsFirstToken text bytes (Some kind) after
      → Reads (at + length bytes) after tokens end rest
      → Reads at text (record { kind = kind; from = at; to = at + length bytes } ∷ tokens) end rest

-- the text is cut into these tokens
pub record AreTokensOf (text : List ℕ) (tokens : List Token) : Type 0 where
  pub end : ℕ
  pub read : Reads 0 text tokens end []

-- the kinds of some tokens, in their order
abbrev pub kinds : List Token → List Kind
kinds tokens = map (λ t. t.kind) tokens
