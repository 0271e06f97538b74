-- The reserved word that a text is, and the longest symbol with which it begins.
use Rattle.std.proofs.Common.{◌≡◌, ◌≤◌, ◌<◌, inl, inr, ℕ, Bool, true, false, ◌&&◌, not, List, ◌++◌, length, take, drop, nat_le, bytes_eq, Option, Some, None, refl, sym, ap, ◌∙◌, subst, arith, ◌↔◌, take-append-drop, length-append}
use lib.Seq.{take-append_seam}
use Rattle.std.proofs.lemmas.List.{length-take}
use Rattle.std.specs.Prelude.{IfSome}
use Rattle.std.specs.Map.{lookup}
use Rattle.std.proofs.lemmas.Option.{none-some}
use Rattle.std.proofs.lemmas.Bool.{and_parts, leb-true, cases_lt}
use Rattle.std.proofs.lemmas.Slice.Eq.{bytes_eq-Decides}
use Rattle.prism_syntax.specs.declared.tokens.Kind.{Kind}
use Rattle.prism_syntax.specs.Spelling.{spelling_of, is_symbol}
use Rattle.prism_syntax.specs.Tokens.{IsReservedWord, IsNotReserved, IsLongestSymbol, BeginsNoSymbol}
use Rattle.prism_syntax.specs.SpellingTables.{one_letter_words, four_letter_words, five_letter_words, middle_words, short_words, long_words, one_byte_symbols, two_byte_symbols, three_byte_symbols, words_of, symbols_of}
use Rattle.prism_syntax.proofs.ListedLemmas.{listed_word, listed_symbol}
use Rattle.prism_syntax.proofs.TableLemmas.{found_row, all_words, all_symbols, words_pass, symbols_pass, each_symbol}

-- this is the spelling of this text
spells : Option (List ℕ) → List ℕ → Bool
spells (Some bytes) text = bytes_eq bytes text
spells None text = false

spells_is : (o : Option (List ℕ)) (text : List ℕ) → spells o text ≡ true → o ≡ Some text
unfolding spells
spells_is (Some bytes) text is = ap Some ((bytes_eq-Decides bytes text).0 is)
spells_is None text is = absurd (cc)

-- a row has the spelling of a reserved word
is_word_row : List ℕ × Kind → Bool
is_word_row row = spells (spelling_of row.1) row.0 && not (is_symbol row.1)

-- a row has the spelling of a symbol
is_symbol_row : List ℕ × Kind → Bool
is_symbol_row row = spells (spelling_of row.1) row.0 && is_symbol row.1

word_rows : all_words is_word_row ≡ true
unfolding is_word_row spells spelling_of one_letter_words four_letter_words five_letter_words middle_words short_words long_words
word_rows = refl

symbol_rows : all_symbols is_symbol_row ≡ true
unfolding is_symbol_row spells spelling_of one_byte_symbols two_byte_symbols three_byte_symbols
symbol_rows = refl

-- the word that is found is the text
pub word_found : (text : List ℕ) (r : Option Kind) → r ≡ lookup (bytes_eq text) (words_of (length text)) → IfSome r (λ kind. IsReservedWord text kind)
unfolding is_word_row
word_found text None is = tt
word_found text (Some kind) is =
    let parts = and_parts _ _ (found_row text (words_of (length text)) is_word_row kind (words_pass is_word_row (length text) word_rows) (sym is)) in
    record { spelling = spells_is (spelling_of kind) text parts.0; word = not_true (is_symbol kind) parts.1 }
  where
    not_true : (b : Bool) → not b ≡ true → b ≡ false
    not_true true h = sym h
    not_true false h = refl

-- none is found exactly where the text is no reserved word
pub word_none : (text : List ℕ) (r : Option Kind) → r ≡ lookup (bytes_eq text) (words_of (length text)) → (r ≡ None) ↔ IsNotReserved text
word_none text r is = (none_reserved, reserved_none r is)
  where
    none_reserved : r ≡ None → IsNotReserved text
    none_reserved none kind reserved = none-some kind (sym none ∙ is ∙ listed_word kind text reserved.word reserved.spelling)

    reserved_none : (r : Option Kind) → r ≡ lookup (bytes_eq text) (words_of (length text)) → IsNotReserved text → r ≡ None
    reserved_none None is not_reserved = refl
    reserved_none (Some kind) is not_reserved = absurd (not_reserved kind (word_found text (Some kind) is))

-- a symbol has one to three bytes
fits : List ℕ → Bool
fits bytes = nat_le 1 (length bytes) && nat_le (length bytes) 3

symbol_sizes : all_symbols (λ row. fits row.0) ≡ true
unfolding fits one_byte_symbols two_byte_symbols three_byte_symbols
symbol_sizes = refl

symbol_size : (kind : Kind) (bytes : List ℕ) → is_symbol kind ≡ true → spelling_of kind ≡ Some bytes → (1 ≤ length bytes) × (length bytes ≤ 3)
unfolding fits
symbol_size kind bytes symbol spelled =
    let parts = and_parts _ _ (each_symbol fits symbol_sizes kind bytes symbol spelled) in
    (leb-true 1 (length bytes) parts.0, leb-true (length bytes) 3 parts.1)

-- no symbol of so many bytes begins the text
abbrev pub Misses : List ℕ → ℕ → Type 0
Misses text n = lookup (bytes_eq (take n text)) (symbols_of n) ≡ None

-- then no symbol of this size does
missed : (text : List ℕ) (n : ℕ) (kind : Kind) (prefix rest : List ℕ) → Misses text n → is_symbol kind ≡ true → spelling_of kind ≡ Some prefix → text ≡ prefix ++ rest → length prefix ≡ n → ⊥
missed text n kind prefix rest misses symbol spelled cut size =
    let begins : take n text ≡ prefix = ap (take n) cut ∙ ap (λ m. take m (prefix ++ rest)) (sym size) ∙ take-append_seam prefix rest in
    none-some kind
    (sym misses ∙ ap (λ p. lookup (bytes_eq p) (symbols_of n)) begins
    ∙ ap (λ m. lookup (bytes_eq prefix) (symbols_of m)) (sym size) ∙ listed_symbol kind prefix symbol spelled)

-- a symbol of so many bytes begins the text, and no longer one
pub longest_symbol : (text : List ℕ) (n : ℕ) (kind : Kind) → (0 < n) → (n ≤ 3) → Some kind ≡ lookup (bytes_eq (take n text)) (symbols_of n)
    → ((m : ℕ) → n < m → m ≤ 3 → Misses text m) → IsLongestSymbol text kind
unfolding is_symbol_row
longest_symbol text n kind some small found longer =
    let parts = and_parts _ _ (found_row (take n text) (symbols_of n) is_symbol_row kind (symbols_pass is_symbol_row n symbol_rows) (sym found)) in
    let spelling = spells_is (spelling_of kind) (take n text) parts.0 in
    record {
      bytes = take n text;
      after = drop n text;
      symbol = parts.1;
      spelling = spelling;
      cut = sym (take-append-drop n text);
      longest = λ other prefix rest symbol spelled cut. not_longer other prefix rest symbol spelled cut (symbol_size other prefix symbol spelled);
    }
  where
    not_longer : (other : Kind) (prefix rest : List ℕ) → is_symbol other ≡ true → spelling_of other ≡ Some prefix → text ≡ prefix ++ rest
        → (1 ≤ length prefix) × (length prefix ≤ 3) → length prefix ≤ length (take n text)
    not_longer other prefix rest symbol spelled cut size = elim (cases_lt n (length prefix)) [
      | inl more ↦ absurd (missed text (length prefix) other prefix rest (longer (length prefix) more size.1) symbol spelled cut refl)
      | inr less ↦ omega (arith, less, length-take n text, ap length cut, length-append prefix rest)
    ]

-- no symbol of any size begins the text
pub no_symbol : (text : List ℕ) → ((m : ℕ) → 0 < m → m ≤ 3 → Misses text m) → BeginsNoSymbol text
no_symbol text misses kind bytes after symbol spelled cut =
    let size = symbol_size kind bytes symbol spelled in
    missed text (length bytes) kind bytes after (misses (length bytes) (omega (arith, size.0)) size.1) symbol spelled cut refl

-- what begins with a symbol does not begin with none
pub some_symbol : (text : List ℕ) (kind : Kind) → IsLongestSymbol text kind → (Some kind ≡ None) ↔ BeginsNoSymbol text
some_symbol text kind longest = (λ none. absurd (none-some kind (sym none)), λ no. absurd (no kind longest.bytes longest.after longest.symbol longest.spelling longest.cut))

-- what was found at the front of a text, by its first bytes
pub found_at : (text prefix : List ℕ) (n : ℕ) (r o : Option Kind) → prefix ≡ take n text → r ≡ lookup (bytes_eq prefix) (symbols_of n) → r ≡ o
    → o ≡ lookup (bytes_eq (take n text)) (symbols_of n)
found_at text prefix n r o is told found = sym found ∙ told ∙ ap (λ p. lookup (bytes_eq p) (symbols_of n)) is

-- where no longer symbol was found, the last look decides
pub last_symbol : (text : List ℕ) (r : Option Kind) → r ≡ lookup (bytes_eq (take 1 text)) (symbols_of 1) → Misses text 2 → Misses text 3
    → IfSome r (λ kind. IsLongestSymbol text kind) × ((r ≡ None) ↔ BeginsNoSymbol text)
last_symbol text (Some kind) is no_two no_three =
    let longest = longest_symbol text 1 kind (omega arith) (omega arith) is (λ m more less. two_or_three m more less) in
    (longest, some_symbol text kind longest)
  where
    two_or_three : (m : ℕ) → 1 < m → m ≤ 3 → Misses text m
    two_or_three m more less = elim (cases_lt m 3) [
      | inl two ↦ let same : 2 ≡ m = omega (arith, two, more) in subst (Misses text) same no_two
      | inr three ↦ let same : 3 ≡ m = omega (arith, three, less) in subst (Misses text) same no_three
    ]
last_symbol text None is no_two no_three = (tt, (λ none. no_symbol text misses, λ no. refl))
  where
    misses : (m : ℕ) → 0 < m → m ≤ 3 → Misses text m
    misses m some less = elim (cases_lt m 2) [
      | inl one ↦ let same : 1 ≡ m = omega (arith, one, some) in subst (Misses text) same (sym is)
      | inr more ↦ elim (cases_lt m 3) [
        | inl two ↦ let same : 2 ≡ m = omega (arith, two, more) in subst (Misses text) same no_two
        | inr three ↦ let same : 3 ≡ m = omega (arith, three, less) in subst (Misses text) same no_three
      ]
    ]
