-- Facts on the values of options.
use Rattle.std.proofs.Common.{◌≡◌, ℕ, ◌<◌, ◌≤◌, ◌^◌, List, Bool, true, ◌&&◌, length, nat_le, Some, None, refl, arith, rules, tests}
use Rattle.std.proofs.lemmas.Bool.{cases_Bool}
use mathlib.Core.Logic.{⊎_elim}
use Rattle.std.specs.Char.{is_ascii_digit}
use Rattle.std.specs.List.{list_all}
use Rattle.std.specs.Str.Parse.{IsNumeral, digits_value}
use Rattle.std.proofs.lemmas.Str.Parse.{IsNumeralModel, numerals_by_value}
use Rattle.smc_settings.specs.Values.{is_whole, whole_within}

-- bytes that are all digits are what `parse` calls digits
all_digits : IsNumeralModel (λ text. list_all is_ascii_digit text ≡ true) (digits_value 10)
all_digits = numerals_by_value _ (search rules)

-- a numeral of at most 20 digits is a whole number
is_whole-numeral : (text : List ℕ) → IsNumeral 10 text → length text ≤ 20 → is_whole text ≡ true
is_whole-numeral text (some, digits) short =
    let all : list_all is_ascii_digit text ≡ true = all_digits.from text digits in
    grind (arith, all)

-- and a whole number is such a numeral
pub numeral_of_whole : (text : List ℕ) → is_whole text ≡ true → IsNumeral 10 text × (length text ≤ 20)
numeral_of_whole text whole =
    let some : 0 < length text = search (rules, tests) in
    let short : length text ≤ 20 = search (rules, tests) in
    let all : list_all is_ascii_digit text ≡ true = search (rules, tests) in
    ((some, all_digits.to text all), short)

-- no number comes of a text that is no numeral in reach
pub whole_within-none : (least most : ℕ) (text : List ℕ) → most < 2 ^ 64 → ¬ (IsNumeral 10 text × (length text ≤ 20) × (digits_value 10 text < 2 ^ 64)) → whole_within least most text ≡ None
whole_within-none least most text fits none =
    let test : Bool = is_whole text && nat_le least (digits_value 10 text) && nat_le (digits_value 10 text) most in
    let refused : test ≡ true → ⊥ = λ passed.
    let whole : is_whole text ≡ true = search (rules, tests) in
    let low : digits_value 10 text ≤ most = search (rules, tests) in
    let numeral : IsNumeral 10 text × (length text ≤ 20) = numeral_of_whole text whole in
    none (numeral.0, numeral.1, omega arith) in
    ⊎_elim (λ passed. absurd (refused passed)) (λ failed. rw failed refl) (cases_Bool test)

-- and of another one its value, where it is from least to most
pub whole_within-some : (least most n : ℕ) (text : List ℕ) → IsNumeral 10 text → length text ≤ 20 → n ≡ digits_value 10 text → least ≤ n → n ≤ most → whole_within least most text ≡ Some n
whole_within-some least most n text numeral short is_value low high =
    let above : least ≤ digits_value 10 text = omega arith in
    let below : digits_value 10 text ≤ most = omega arith in
    rw (is_whole-numeral text numeral short, is_value) (search (rules, tests))
