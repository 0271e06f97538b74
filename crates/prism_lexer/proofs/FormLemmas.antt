-- The form of a token shows at its first bytes.
use Rattle.std.proofs.Common.{◌≡◌, ℕ, ℤ, Bool, true, false, ◌&&◌, ◌||◌, not, ◌==◌, cond, List, [], ◌∷◌, ◌++◌, Option, Some, inl, inr, ⊎_elim, refl, sym, ◌∙◌, ap, subst, arith}
use Rattle.std.specs.List.{list_all}
use Rattle.std.specs.Char.{is_ascii_digit}
use Rattle.std.specs.Str.Parse.{IsNumeral}
use Rattle.std.proofs.lemmas.Bool.{cases_Bool, cond-true, cond-false, and_parts}
use Rattle.std.proofs.lemmas.Bool.Decides.{nat_tests}
use Rattle.smc_num.specs.Spelling.{Written, decimal, IsSpelled, whole, point, bar}
use Rattle.prism_syntax.specs.declared.tokens.Kind.{Kind}
use Rattle.prism_syntax.specs.Spelling.{spelling_of, is_symbol, symbolic, begins_word}
use Rattle.prism_syntax.specs.SpellingTables.{one_letter_words, four_letter_words, five_letter_words, middle_words, short_words, long_words, one_byte_symbols, two_byte_symbols, three_byte_symbols}
use Rattle.prism_syntax.specs.Tokens.{is_word, IsWord, IsFree, IsNotReserved, goes_on_word, IsToken, is_blank}
use Rattle.prism_syntax.specs.Tokens as token
use Rattle.prism_syntax.proofs.TableLemmas.{all_words, all_symbols, each_word, each_symbol}
use Rattle.prism_lexer.specs.Lexemes.{IsQuoted}
use Rattle.prism_lexer.proofs.NumberLemmas.{IsNumberText, digits_tested}

-- what the first bytes of a text show
pub data Head : Type 0 where
  letter : Head
  quote : Head
  digit : Head
  other : Head

-- a text begins with a digit
abbrev pub begins_digit : List ℕ → Bool
begins_digit [] = false
begins_digit (c ∷ cs) = is_ascii_digit c

-- a letter or `_`; `"`; a digit, or a point and a digit; or something else
abbrev pub head_of : List ℕ → Head
head_of [] = other
head_of (c ∷ cs) = cond (begins_word c) letter (cond (c == 34) quote (cond (is_ascii_digit c || (c == 46 && begins_digit cs)) digit other))

-- the form of a token
pub data Form (bytes : List ℕ) : Type 0 where
  word : IsWord bytes → Form bytes
  quoted : IsQuoted bytes → Form bytes
  number : IsNumberText bytes → Form bytes
  symbol : (kind : Kind) → is_symbol kind ≡ true → spelling_of kind ≡ Some bytes → Form bytes

words_are : all_words (λ row. is_word row.0) ≡ true
unfolding one_letter_words four_letter_words five_letter_words middle_words short_words long_words
words_are = refl

-- each reserved word is a word
pub reserved_word : (kind : Kind) (bytes : List ℕ) → is_symbol kind ≡ false → spelling_of kind ≡ Some bytes → is_word bytes ≡ true
reserved_word kind bytes is_false spelled = each_word is_word words_are kind bytes is_false spelled

-- a word that is not reserved is no spelling
pub free_word : (text : List ℕ) → IsWord text → IsNotReserved text → IsFree text
free_word [] is free kind spelled = absurd (cc)
free_word (c ∷ cs) is free kind spelled =
    free kind (record { spelling = spelled; word = ap symbolic spelled ∙ ap not (and_parts _ _ is).0 })

-- the form of each token
pub form_of : (bytes : List ℕ) (kind : Option Kind) → IsToken bytes kind → Form bytes
form_of _ _ (token.fixed bytes kind spelled) =
    ⊎_elim (λ (is_true : is_symbol kind ≡ true). symbol kind is_true spelled) (λ (is_false : is_symbol kind ≡ false). word (reserved_word kind bytes is_false spelled)) (cases_Bool (is_symbol kind))
form_of _ _ (token.name bytes is free) = word is
form_of _ _ (token.quoted bytes is) = quoted (record { word = bytes; is_word = is; cut = refl })
form_of _ _ (token.whole digits numeral) = number (inl numeral)
form_of _ _ (token.real bytes digits power spelled not_whole) = number (inr (record { digits = digits; power = power; spelled = spelled; not_whole = not_whole }))

-- ---- heads

-- a word begins with a letter or `_`
pub word_head : (bytes rest : List ℕ) → IsWord bytes → head_of (bytes ++ rest) ≡ letter
word_head [] rest is = absurd (cc)
word_head (c ∷ cs) rest is = cond-true (begins_word c) _ _ (and_parts (begins_word c) (list_all goes_on_word cs) is).0

pub quoted_head : (bytes rest : List ℕ) → IsQuoted bytes → head_of (bytes ++ rest) ≡ quote
quoted_head bytes rest is = subst (λ b. head_of (b ++ rest) ≡ quote) (sym is.cut) refl

pub digit_head : (c : ℕ) (cs : List ℕ) → is_ascii_digit c ≡ true → head_of (c ∷ cs) ≡ digit
digit_head c cs is =
    let no_word : begins_word c ≡ false = grind (arith, nat_tests) in
    let no_quote : (c == 34) ≡ false = grind (arith, nat_tests) in
    cond-false _ _ _ no_word ∙ cond-false _ _ _ no_quote ∙ cond-true _ _ _ (ap (λ b. b || (c == 46 && begins_digit cs)) is)

numeral_head : (bytes rest : List ℕ) → IsNumeral 10 bytes → head_of (bytes ++ rest) ≡ digit
numeral_head [] rest numeral = absurd (omega (arith, numeral.0))
numeral_head (c ∷ cs) rest numeral = digit_head c (cs ++ rest) (and_parts _ _ (digits_tested (c ∷ cs) numeral.1)).0

spelled_head : (bytes : List ℕ) (written : Written) (digits : List ℕ) (power : ℤ) → IsSpelled bytes written → written ≡ decimal digits power → (rest : List ℕ) → head_of (bytes ++ rest) ≡ digit
spelled_head _ _ ds p (whole [] exponent power numeral is) same rest = absurd (omega (arith, numeral.0))
spelled_head _ _ ds p (whole (c ∷ cs) exponent power numeral is) same rest = digit_head c ((cs ++ exponent) ++ rest) (and_parts _ _ (digits_tested (c ∷ cs) numeral.1)).0
spelled_head _ _ ds p (point [] [] exponent power all numeral is) same rest = absurd (omega (arith, numeral.0))
spelled_head _ _ ds p (point [] (c ∷ cs) exponent power all numeral is) same rest =
    cond-true (is_ascii_digit c) digit other (and_parts (is_ascii_digit c) (list_all is_ascii_digit cs) (digits_tested (c ∷ cs) numeral.1)).0
spelled_head _ _ ds p (point (c ∷ cs) part exponent power all numeral is) same rest = digit_head c ((cs ++ (46 ∷ (part ++ exponent))) ++ rest) (and_parts _ _ (digits_tested (c ∷ cs) all)).0
spelled_head _ _ ds p (bar top bottom first second some) same rest = absurd (cc)

pub number_head : (bytes rest : List ℕ) → IsNumberText bytes → head_of (bytes ++ rest) ≡ digit
number_head bytes rest (inl numeral) = numeral_head bytes rest numeral
number_head bytes rest (inr real) = spelled_head bytes (decimal real.digits real.power) real.digits real.power real.spelled refl rest

-- the first bytes of a symbol: no letter, no `"`, no digit, no blank, and a point only before another
symbol_start : List ℕ → Bool
symbol_start [] = false
symbol_start (c ∷ cs) = (not (begins_word c) && not (c == 34)) && ((not (is_ascii_digit c) && not (is_blank c)) && (not (c == 46) || begins_point cs))
  where
    begins_point : List ℕ → Bool
    begins_point [] = false
    begins_point (d ∷ ds) = d == 46

symbols_start : all_symbols (λ row. symbol_start row.0) ≡ true
unfolding one_byte_symbols two_byte_symbols three_byte_symbols symbol_start
symbols_start = refl

not_true : (b : Bool) → not b ≡ true → b ≡ false
not_true true h = cc
not_true false h = refl

-- a byte that is no digit, and no point unless another one follows, begins no number
no_number : (c d : ℕ) → is_ascii_digit c ≡ false → (not (c == 46) || (d == 46)) ≡ true → (is_ascii_digit c || (c == 46 && is_ascii_digit d)) ≡ false
no_number c d no_digit points = grind (arith, nat_tests)

-- a symbol begins with nothing of the other forms, whatever follows it
symbol_begins : (bytes rest : List ℕ) → symbol_start bytes ≡ true → head_of (bytes ++ rest) ≡ other
unfolding symbol_start
symbol_begins [] rest start = absurd (cc)
symbol_begins (c ∷ []) rest start =
    let parts = and_parts _ _ start in
    let first = and_parts _ _ parts.0 in
    let second = and_parts _ _ parts.1 in
    let no_digit = not_true _ (and_parts _ _ second.0).0 in
    let no_point : (c == 46) ≡ false = not_true _ (no_rest (not (c == 46)) second.1) in
    cond-false _ _ _ (not_true _ first.0) ∙ cond-false _ _ _ (not_true _ first.1) ∙ cond-false _ _ _ (neither (is_ascii_digit c) (c == 46) (begins_digit rest) no_digit no_point)
  where
    no_rest : (b : Bool) → (b || false) ≡ true → b ≡ true
    no_rest true h = refl
    no_rest false h = h

    neither : (a b d : Bool) → a ≡ false → b ≡ false → (a || (b && d)) ≡ false
    neither true b d no_a no_b = cc
    neither false true d no_a no_b = cc
    neither false false d no_a no_b = refl
symbol_begins (c ∷ (d ∷ ds)) rest start =
    let parts = and_parts _ _ start in
    let first = and_parts _ _ parts.0 in
    let second = and_parts _ _ parts.1 in
    let no_digit = not_true _ (and_parts _ _ second.0).0 in
    cond-false _ _ _ (not_true _ first.0) ∙ cond-false _ _ _ (not_true _ first.1) ∙ cond-false _ _ _ (no_number c d no_digit second.1)

pub symbol_head : (kind : Kind) (bytes rest : List ℕ) → is_symbol kind ≡ true → spelling_of kind ≡ Some bytes → head_of (bytes ++ rest) ≡ other
symbol_head kind bytes rest is_true spelled = symbol_begins bytes rest (each_symbol symbol_start symbols_start kind bytes is_true spelled)

-- ---- blanks

-- a blank is none of the other forms
blank_head : (c : ℕ) (cs : List ℕ) → is_blank c ≡ true → head_of (c ∷ cs) ≡ other
blank_head c cs blank =
    let no_word : begins_word c ≡ false = grind (arith, nat_tests) in
    let no_quote : (c == 34) ≡ false = grind (arith, nat_tests) in
    let no_digit : is_ascii_digit c ≡ false = grind (arith, nat_tests) in
    let no_point : (c == 46) ≡ false = grind (arith, nat_tests) in
    cond-false _ _ _ no_word ∙ cond-false _ _ _ no_quote ∙ cond-false _ _ _ (neither _ _ _ no_digit no_point)
  where
    neither : (a b d : Bool) → a ≡ false → b ≡ false → (a || (b && d)) ≡ false
    neither true b d no_a no_b = cc
    neither false true d no_a no_b = cc
    neither false false d no_a no_b = refl

symbol_no_blank : (bytes : List ℕ) (c : ℕ) (cs : List ℕ) → symbol_start bytes ≡ true → bytes ≡ c ∷ cs → is_blank c ≡ true → ⊥
unfolding symbol_start
symbol_no_blank [] c cs start same blank = cc
symbol_no_blank (d ∷ ds) c cs start same blank =
    let parts = and_parts _ _ start in
    let second = and_parts _ _ parts.1 in
    let no_blank : is_blank d ≡ false = not_true _ (and_parts _ _ second.0).1 in
    let first : d ≡ c = cc in
    let clash : true ≡ false = sym blank ∙ ap is_blank (sym first) ∙ no_blank in
    cc

-- no symbol is empty
symbol_some : (bytes : List ℕ) → symbol_start bytes ≡ true → bytes ≡ [] → ⊥
unfolding symbol_start
symbol_some [] start empty = cc
symbol_some (c ∷ cs) start empty = cc

-- no token is empty
pub token_some : (bytes : List ℕ) (kind : Option Kind) → IsToken bytes kind → bytes ≡ [] → ⊥
token_some bytes kind is empty = elim (form_of bytes kind is) [
  | word w ↦ let clash : false ≡ true = sym (ap is_word empty) ∙ w in cc
  | quoted q ↦ let e = sym q.cut ∙ empty in cc
  | number n ↦ let e = sym (number_head bytes [] n) ∙ ap (λ b. head_of (b ++ [])) empty in cc
  | symbol k is_true spelled ↦ symbol_some bytes (each_symbol symbol_start symbols_start k bytes is_true spelled) empty
]

-- no token begins with a blank
pub token_no_blank : (bytes : List ℕ) (kind : Option Kind) (c : ℕ) (text after : List ℕ) → IsToken bytes kind → c ∷ text ≡ bytes ++ after → is_blank c ≡ true → ⊥
token_no_blank [] kind c text after is cut blank = token_some [] kind is refl
token_no_blank (d ∷ ds) kind c text after is cut blank =
    let first : d ≡ c = cc in
    let d_blank : is_blank d ≡ true = ap is_blank first ∙ blank in
    let none : head_of ((d ∷ ds) ++ []) ≡ other = blank_head d (ds ++ []) d_blank in
    elim (form_of (d ∷ ds) kind is) [
      | word w ↦ let e = sym (word_head (d ∷ ds) [] w) ∙ none in cc
      | quoted q ↦ let e = sym (quoted_head (d ∷ ds) [] q) ∙ none in cc
      | number n ↦ let e = sym (number_head (d ∷ ds) [] n) ∙ none in cc
      | symbol k is_true spelled ↦ symbol_no_blank (d ∷ ds) d ds (each_symbol symbol_start symbols_start k (d ∷ ds) is_true spelled) refl d_blank
    ]
