-- What is found in the tables of symbols and of reserved words.
use Rattle.std.proofs.Common.{◌≡◌, ◌==◌, ℕ, Bool, true, false, ◌&&◌, ◌||◌, cond, List, [], ◌∷◌, length, bytes_eq, Option, Some, refl, sym, ap, ◌∙◌}
use Rattle.std.specs.List.{list_all}
use Rattle.std.specs.Map.{lookup}
use Rattle.std.proofs.lemmas.Option.{none-some}
use Rattle.std.proofs.lemmas.Bool.{and_parts}
use Rattle.std.proofs.lemmas.Slice.Eq.{bytes_eq-Decides}
use Rattle.prism_syntax.specs.declared.tokens.Kind.{Kind}
use Rattle.prism_syntax.specs.Spelling.{spelling_of, is_symbol}
use Rattle.prism_syntax.specs.SpellingTables.{one_letter_words, four_letter_words, five_letter_words, middle_words, short_words, long_words, one_byte_symbols, two_byte_symbols, three_byte_symbols, words_of, symbols_of}
use Rattle.prism_syntax.proofs.ListedLemmas.{listed_word, listed_symbol}

-- a first row that is found or passed over
found_first : (text : List ℕ) (row : List ℕ × Kind) (rest : Option Kind) (test : List ℕ × Kind → Bool) (kind : Kind) (same : Bool)
    → bytes_eq text row.0 ≡ same → test row ≡ true → (rest ≡ Some kind → test (text, kind) ≡ true) → cond same (Some row.1) rest ≡ Some kind → test (text, kind) ≡ true
found_first text row rest test kind true is passes others found =
    let spelled : text ≡ row.0 = (bytes_eq-Decides text row.0).0 is in
    let same : row.1 ≡ kind = cc in
    ap test (λ i. (spelled i, sym same i)) ∙ passes
found_first text row rest test kind false is passes others found = others found

-- what is found is a row of the table whose spelling is the text
pub found_row : (text : List ℕ) (table : List (List ℕ × Kind)) (test : List ℕ × Kind → Bool) (kind : Kind)
    → list_all test table ≡ true → lookup (bytes_eq text) table ≡ Some kind → test (text, kind) ≡ true
found_row text [] test kind all found = absurd (none-some kind found)
found_row text (row ∷ rows) test kind all found =
    let parts = and_parts (test row) (list_all test rows) all in
    found_first text row (lookup (bytes_eq text) rows) test kind (bytes_eq text row.0) refl parts.0 (found_row text rows test kind parts.1) found

-- a test passes where it passes either way
all_either : {X : Type 0} (test : X → Bool) (b : Bool) (xs ys : List X) → list_all test xs ≡ true → list_all test ys ≡ true → list_all test (cond b xs ys) ≡ true
all_either test true xs ys first second = first
all_either test false xs ys first second = second

-- all rows of reserved words pass a test
abbrev pub all_words : (List ℕ × Kind → Bool) → Bool
all_words test =
    list_all test one_letter_words && (list_all test four_letter_words && (list_all test five_letter_words
    && (list_all test middle_words && (list_all test short_words && list_all test long_words))))

-- all rows of symbols pass a test
abbrev pub all_symbols : (List ℕ × Kind → Bool) → Bool
all_symbols test = list_all test one_byte_symbols && (list_all test two_byte_symbols && list_all test three_byte_symbols)

-- then those of each length do
pub words_pass : (test : List ℕ × Kind → Bool) (n : ℕ) → all_words test ≡ true → list_all test (words_of n) ≡ true
words_pass test n all =
    let one = and_parts (list_all test one_letter_words) _ all in
    let four = and_parts (list_all test four_letter_words) _ one.1 in
    let five = and_parts (list_all test five_letter_words) _ four.1 in
    let middle = and_parts (list_all test middle_words) _ five.1 in
    let short = and_parts (list_all test short_words) _ middle.1 in
    let others = cond (n == 2 || n == 3) short_words long_words in
    let from_six = cond (n == 6 || n == 7) middle_words others in
    let from_five = cond (n == 5) five_letter_words from_six in
    let from_four = cond (n == 4) four_letter_words from_five in
    all_either test (n == 1) one_letter_words from_four one.0
    (all_either test (n == 4) four_letter_words from_five four.0
    (all_either test (n == 5) five_letter_words from_six five.0
    (all_either test (n == 6 || n == 7) middle_words others middle.0
    (all_either test (n == 2 || n == 3) short_words long_words short.0 short.1))))

-- and those symbols of each length
pub symbols_pass : (test : List ℕ × Kind → Bool) (n : ℕ) → all_symbols test ≡ true → list_all test (symbols_of n) ≡ true
symbols_pass test n all =
    let one = and_parts (list_all test one_byte_symbols) _ all in
    let two = and_parts (list_all test two_byte_symbols) _ one.1 in
    all_either test (n == 1) one_byte_symbols (cond (n == 2) two_byte_symbols three_byte_symbols) one.0
    (all_either test (n == 2) two_byte_symbols three_byte_symbols two.0 two.1)

-- a test of the spelling of each reserved word holds of each
pub each_word : (test : List ℕ → Bool) → all_words (λ row. test row.0) ≡ true
    → (kind : Kind) (bytes : List ℕ) → is_symbol kind ≡ false → spelling_of kind ≡ Some bytes → test bytes ≡ true
each_word test all kind bytes is_false spelled =
    found_row bytes (words_of (length bytes)) (λ row. test row.0) kind (words_pass (λ row. test row.0) (length bytes) all) (listed_word kind bytes is_false spelled)

-- and of each symbol
pub each_symbol : (test : List ℕ → Bool) → all_symbols (λ row. test row.0) ≡ true
    → (kind : Kind) (bytes : List ℕ) → is_symbol kind ≡ true → spelling_of kind ≡ Some bytes → test bytes ≡ true
each_symbol test all kind bytes is_true spelled =
    found_row bytes (symbols_of (length bytes)) (λ row. test row.0) kind (symbols_pass (λ row. test row.0) (length bytes) all) (listed_symbol kind bytes is_true spelled)
