-- What is found at the front of a text before its kind is known.
use Rattle.std.specs.Prelude.{◌≡◌, ◌<◌, ◌≤◌, ℕ, ℤ, List, [], ◌∷◌, ◌++◌, length, take, Option, Some}
use Rattle.std.specs.Str.Parse.{IsNumeral}
use Rattle.smc_num.specs.Spelling.{IsSpelled, decimal}
use Rattle.prism_syntax.specs.declared.tokens.Kind.{Kind}
use Rattle.prism_syntax.specs.Spelling.{spelling_of}
use Rattle.prism_syntax.specs.Tokens.{IsWord, IsToken, IsLongestSymbol}
use Rattle.prism_lexer.specs.declared.lexeme.Lexeme.{Lexeme}
use Rattle.prism_lexer.specs.declared.lexeme.Lexeme.TheVariants as lexeme

-- a number with a fraction or an exponent
pub record IsReal (text : List ℕ) : Type 0 where
  pub digits : List ℕ
  pub power : ℤ
  pub spelled : IsSpelled text (decimal digits power)
  pub not_whole : IsNumeral 10 text → ⊥

-- a word between quotation marks
pub record IsQuoted (text : List ℕ) : Type 0 where
  pub word : List ℕ
  pub is_word : IsWord word
  pub cut : text ≡ 34 ∷ (word ++ (34 ∷ []))

-- a text is of this form
abbrev pub HasLexeme : Lexeme → List ℕ → Type 0
HasLexeme lexeme.Word text = IsWord text
HasLexeme lexeme.Whole text = IsNumeral 10 text
HasLexeme lexeme.Real text = IsReal text
HasLexeme lexeme.Quoted text = IsQuoted text
HasLexeme (lexeme.Symbol kind) text = spelling_of kind ≡ Some text

-- the longest token at the front of a text has this form and so many bytes
pub record IsLongestLexeme (text : List ℕ) (form : Lexeme) (n : ℕ) : Type 0 where
  pub some : 0 < n
  pub within : n ≤ length text
  pub form_is : HasLexeme form (take n text)
  pub longest : (front after : List ℕ) (kind : Option Kind) → text ≡ front ++ after → IsToken front kind → length front ≤ n

-- a text begins with this longest symbol of so many bytes
pub record IsSymbolLexeme (text : List ℕ) (form : Lexeme) (n : ℕ) : Type 0 where
  pub kind : Kind
  pub is_form : form ≡ lexeme.Symbol kind
  pub symbol : IsLongestSymbol text kind
  pub size : n ≡ length symbol.bytes
