-- Constants as they are spelled.
use Rattle.std.proofs.Common.{◌≡◌, ◌==◌, ◌||◌, ◌&&◌, ◌<◌, nat_lt, lt-ltb, ℕ, Bool, true, false, ℤ, pos, List, [], ◌∷◌, ◌++◌, Option, Some, None, Result, Ok, refl, ap, sym, ◌∙◌, subst, append-nil, length, inl, inr, eqb-true, ne_eqb, IsErrOf, ◌↔◌, arith, rules, if◌then◌else◌}
use Rattle.std.specs.List.{list_all}
use Rattle.std.specs.Char.{is_ascii_digit, digit_value}
use Rattle.std.specs.Str.Parse.{IsNumeral, AllDigits, digits_value}
use Rattle.std.proofs.lemmas.Bool.{and_from, and_parts, or_left, ltb-true}
use Rattle.std.proofs.lemmas.Str.Parse.{IsNumeralModel, numerals_by_value}
use Rattle.smc_num.specs.declared.fault.ReadNum.{ReadNum}
use Rattle.smc_num.specs.declared.fault.ReadNum.TheVariants.{NotANumber}
use Rattle.smc_num.specs.Fraction.{Fraction}
use Rattle.smc_num.specs.Spelling.{Written, decimal, ratio, IsMark, IsExponent, none, bare, plus, minus, IsSpelled, whole, point, bar, IsNumber, without_minus, with_minus, value_of}
use Rattle.smc_num.specs.Taken.{sign_of, unsigned_of, spelled_by}
use Rattle.smc_num.proofs.SpellingLemmas.{number_found, found_number}
use Rattle.prism_syntax.specs.Spelling.{begins_word}
use Rattle.prism_syntax.specs.Tokens.{goes_on_word, IsWord}
use Rattle.chain_model.specs.declared.values.Sort.{Sort}
use Rattle.chain_model.specs.declared.values.Sort.TheVariants as sort
use Rattle.chain_model.specs.declared.values.Value.{Value}
use Rattle.chain_model.specs.declared.values.Value.TheVariants as value
use Rattle.chain_model.specs.declared.constants.Given.{Given}
use Rattle.smc_settings.specs.Options.{Text}
use Rattle.smc_settings.specs.Constants.{with_sign, IsValueOf, IsPair, ArePairs, last, more}
use Rattle.smc_settings.specs.Constants as spelled
use Rattle.smc_settings.specs.Values.{IsNumberOf}
use Rattle.smc_settings.proofs.CutLemmas.{has, has_cut, cut_once, lacks, both_fail, join_lacks, join_all, neither}

-- ---- bytes of numbers

-- a byte that a number without `/` may have
abbrev pub is_number_byte : ℕ → Bool
is_number_byte c = is_ascii_digit c || (c == 101 || (c == 69 || (c == 43 || (c == 45 || c == 46))))

all_digits : IsNumeralModel (λ text. list_all is_ascii_digit text ≡ true) (digits_value 10)
all_digits = numerals_by_value _ (search rules)

digits_pass : (ds : Text) → list_all is_ascii_digit ds ≡ true → list_all is_number_byte ds ≡ true
digits_pass [] all = refl
digits_pass (d ∷ ds) all = let parts = and_parts _ _ all in and_from _ _ (or_left _ _ parts.0) (digits_pass ds parts.1)

numeral_passes : (ds : Text) → AllDigits 10 ds → list_all is_number_byte ds ≡ true
numeral_passes ds all = digits_pass ds (all_digits.from ds all)

mark_passes : (c : ℕ) → IsMark c → is_number_byte c ≡ true
mark_passes c (inl is) = subst (λ z. is_number_byte z ≡ true) (sym is) refl
mark_passes c (inr is) = subst (λ z. is_number_byte z ≡ true) (sym is) refl

exponent_passes : (text : Text) (power : ℤ) → IsExponent text power → list_all is_number_byte text ≡ true
exponent_passes _ _ none = refl
exponent_passes _ _ (bare mark digits is numeral) = and_from _ _ (mark_passes mark is) (numeral_passes digits numeral.1)
exponent_passes _ _ (plus mark digits is numeral) = and_from _ _ (mark_passes mark is) (numeral_passes digits numeral.1)
exponent_passes _ _ (minus mark digits is numeral) = and_from _ _ (mark_passes mark is) (numeral_passes digits numeral.1)

spelled_passes : (text digits : Text) (power : ℤ) → IsSpelled text (decimal digits power) → list_all is_number_byte text ≡ true
spelled_passes _ _ _ (whole digits exponent power numeral is) = join_all _ digits exponent (numeral_passes digits numeral.1) (exponent_passes exponent power is)
spelled_passes _ _ _ (point front part exponent power all numeral is) =
    join_all _ front _ (numeral_passes front all) (join_all _ part exponent (numeral_passes part numeral.1) (exponent_passes exponent power is))

signed_passes : (negative : Bool) (text : Text) → list_all is_number_byte text ≡ true → list_all is_number_byte (with_sign negative text) ≡ true
signed_passes false text all = all
signed_passes true text all = all

pub number_passes : (text : Text) (s : Sort) (number : Fraction) → IsValueOf text s (value.Num number) → list_all is_number_byte text ≡ true
number_passes _ _ _ (spelled.whole negative digits number numeral e) = signed_passes negative digits (numeral_passes digits numeral.1)
number_passes _ _ _ (spelled.real negative text digits power number is other e) = signed_passes negative text (spelled_passes text digits power is)

-- the spelling of a number has no `/`
pub number_lacks_bar : (text : Text) (s : Sort) (number : Fraction) → IsValueOf text s (value.Num number) → has 47 text ≡ false
number_lacks_bar text s number is = lacks is_number_byte 47 text refl (number_passes text s number is)

-- the spelling of a value has no comma
pub value_lacks_comma : (text : Text) (s : Sort) (v : Value) → IsValueOf text s v → has 44 text ≡ false
value_lacks_comma text s (value.Num number) is = lacks is_number_byte 44 text refl (number_passes text s number is)
value_lacks_comma _ _ (value.Bool _) spelled.holds = refl
value_lacks_comma _ _ (value.Bool _) spelled.fails = refl

-- ---- numbers

signed_number : (negative : Bool) (text : Text) (written : Written) → IsSpelled text written → IsNumber (with_sign negative text) negative written
signed_number false text written is = without_minus text written is
signed_number true text written is = with_minus text written is

-- digits alone spell a whole number
digits_spelled : (digits : Text) → IsNumeral 10 digits → IsSpelled digits (decimal digits (pos 0))
digits_spelled digits numeral = subst (λ t. IsSpelled t (decimal digits (pos 0))) (append-nil digits) (whole digits [] (pos 0) numeral none)

-- what is spelled as a value of a number is a number
pub record NumberOf (text : Text) (number : Fraction) : Type 0 where
  pub negative : Bool
  pub written : Written
  pub is : IsNumber text negative written
  pub value : value_of negative written ≡ Ok number

pub number_of : (text : Text) (s : Sort) (number : Fraction) → IsValueOf text s (value.Num number) → NumberOf text number
number_of _ _ _ (spelled.whole negative digits number numeral e) = record { negative = negative; written = decimal digits (pos 0); is = signed_number negative digits _ (digits_spelled digits numeral); value = e }
number_of _ _ _ (spelled.real negative text digits power number is other e) = record { negative = negative; written = decimal digits power; is = signed_number negative text _ is; value = e }

-- a text is its digits behind its sign
signed_text : (text : Text) → with_sign (sign_of text) (unsigned_of text) ≡ text
signed_text [] = refl
signed_text (c ∷ cs) = elim (c == 45) as (λ b. (c == 45) ≡ b → with_sign b (if b then cs else c ∷ cs) ≡ c ∷ cs) [
  | true ↦ λ is. ap (λ x. x ∷ cs) (sym (eqb-true c 45 is))
  | false ↦ λ is. refl
] refl

-- a numeral has no sign
digit_unsigned : (c : ℕ) (cs : Text) → digit_value c < 10 → unsigned_of (c ∷ cs) ≡ c ∷ cs
digit_unsigned c cs digit = elim (c == 45) as (λ b. (c == 45) ≡ b → (if b then cs else c ∷ cs) ≡ c ∷ cs) [
  | true ↦ λ is. let bad : digit_value 45 < 10 = subst (λ z. digit_value z < 10) (eqb-true c 45 is) digit in absurd (omega (arith, bad))
  | false ↦ λ is. refl
] refl

pub numeral_unsigned : (text : Text) → IsNumeral 10 text → unsigned_of text ≡ text
numeral_unsigned [] numeral = refl
numeral_unsigned (c ∷ cs) numeral = digit_unsigned c cs numeral.1.0

-- a number that was read from digits alone is of sort `int`
pub whole_value : (text : Text) (r : Result Fraction ReadNum) (number : Fraction) → ((s : Bool) (w : Written) → IsNumber text s w → r ≡ value_of s w) → r ≡ Ok number
    → IsNumeral 10 (unsigned_of text) → IsValueOf text sort.Int (value.Num number)
whole_value text r number reads is numeral =
    let u = unsigned_of text in
    let spells = subst (λ t. IsNumber t (sign_of text) (decimal u (pos 0))) (signed_text text) (signed_number (sign_of text) u _ (digits_spelled u numeral)) in
    subst (λ t. IsValueOf t sort.Int (value.Num number)) (signed_text text)
    (spelled.whole (sign_of text) u number numeral (sym (reads _ _ spells) ∙ is))

-- a number that was read from another text without `/` is of sort `double`
real_spelled : (text : Text) (negative : Bool) (w : Written) (number : Fraction) → IsNumber text negative w → value_of negative w ≡ Ok number → has 47 text ≡ false
    → (IsNumeral 10 (unsigned_of text) → ⊥) → IsValueOf text sort.Double (value.Num number)
real_spelled _ _ (decimal digits power) number (without_minus text _ is) e no_bar other =
    spelled.real false text digits power number is (λ numeral. other (subst (λ t. IsNumeral 10 t) (sym (numeral_unsigned text numeral)) numeral)) e
real_spelled _ _ (decimal digits power) number (with_minus text _ is) e no_bar other = spelled.real true text digits power number is other e
real_spelled _ _ (ratio _ _) number (without_minus _ _ (bar top bottom one two some)) e no_bar other = absurd (cc (sym no_bar ∙ has_cut 47 top bottom))
real_spelled _ _ (ratio _ _) number (with_minus _ _ (bar top bottom one two some)) e no_bar other =
    absurd (cc (sym (neither (45 == 47) (has 47 (top ++ 47 ∷ bottom)) no_bar).1 ∙ has_cut 47 top bottom))

-- a text that is read spells a number
pub record Spells (text : Text) : Type 0 where
  pub negative : Bool
  pub written : Written
  pub is : IsNumber text negative written

pub spells : (text : Text) (r : Result Fraction ReadNum) (number : Fraction) → IsErrOf r NotANumber ↔ ((s : Bool) (w : Written) → IsNumber text s w → ⊥) → r ≡ Ok number → Spells text
spells text r number other is = by_cases (spelled_by (unsigned_of text)) refl
  where
    by_cases : (o : Option Written) → spelled_by (unsigned_of text) ≡ o → Spells text
    by_cases None e =
        absurd (cc (sym is ∙ other.1 (λ s w number. cc (sym e ∙ (number_found text s w number).1))))
    by_cases (Some w) e = record { negative = sign_of text; written = w; is = found_number text w e }

pub real_value : (text : Text) (r : Result Fraction ReadNum) (number : Fraction) → ((s : Bool) (w : Written) → IsNumber text s w → r ≡ value_of s w)
    → IsErrOf r NotANumber ↔ ((s : Bool) (w : Written) → IsNumber text s w → ⊥) → r ≡ Ok number → has 47 text ≡ false
    → (IsNumeral 10 (unsigned_of text) → ⊥) → IsValueOf text sort.Double (value.Num number)
real_value text r number reads other is no_bar no_numeral =
    let found = spells text r number other is in
    real_spelled text found.negative found.written number found.is (sym (reads _ _ found.is) ∙ is) no_bar no_numeral

-- digits, one or more, are a numeral
pub tested_numeral : (text : Text) → (nat_lt 0 (length text) && list_all is_ascii_digit text) ≡ true → IsNumeral 10 text
tested_numeral text e = let parts = and_parts _ _ e in (ltb-true _ _ parts.0, all_digits.to text parts.1)

pub numeral_tested : (text : Text) → IsNumeral 10 text → (nat_lt 0 (length text) && list_all is_ascii_digit text) ≡ true
numeral_tested text numeral = and_from _ _ (lt-ltb _ _ numeral.0) (all_digits.from text numeral.1)

-- a number that was read is spelled by the text
pub number_read : (text : Text) (number : Fraction) → ((s : Bool) (w : Written) → IsNumber text s w → Ok number ≡ value_of s w)
    → IsErrOf (Ok number) NotANumber ↔ ((s : Bool) (w : Written) → IsNumber text s w → ⊥) → IsNumberOf text number
number_read text number reads other =
    let found = spells text (Ok number) number other refl in
    record { negative = found.negative; written = found.written; spelled = found.is; value = sym (reads _ _ found.is) }

-- ---- pairs

-- a word lacks what no word has
pub word_lacks : (b : ℕ) (name : Text) → begins_word b ≡ false → goes_on_word b ≡ false → IsWord name → has b name ≡ false
word_lacks b [] first other is = refl
word_lacks b (c ∷ cs) first other is =
    let parts = and_parts (begins_word c) (list_all goes_on_word cs) is in
    both_fail _ _ (ne_eqb c b (λ e. cc (sym parts.0 ∙ (ap begins_word e ∙ first)))) (lacks goes_on_word b cs other parts.1)

-- a pair has no comma
pub pair_lacks_comma : (text : Text) (given : Given) → IsPair text given → has 44 text ≡ false
pair_lacks_comma text given is =
    ap (has 44) is.cut ∙ join_lacks 44 given.name (61 ∷ is.value) (word_lacks 44 given.name refl refl is.word) (value_lacks_comma is.value given.sort given.value is.is_value)

-- a pair is cut at its first `=`
pub pair_parts : (text name rest : Text) (given : Given) → text ≡ name ++ 61 ∷ rest → has 61 name ≡ false → (is : IsPair text given) → (given.name ≡ name) × (is.value ≡ rest)
pair_parts text name rest given cut plain is =
    cut_once 61 given.name is.value name rest (word_lacks 61 given.name refl refl is.word) plain (sym is.cut ∙ cut)

-- a text without `=` is no pair
pub no_pair : (text : Text) (given : Given) → has 61 text ≡ false → IsPair text given → ⊥
no_pair text given plain is = cc (sym plain ∙ (ap (has 61) is.cut ∙ has_cut 61 given.name is.value))

-- the first of several pairs, and what follows it
pub record First (first rest : Text) (given : List Given) : Type 0 where
  pub one : Given
  pub others : List Given
  pub is : IsPair first one
  pub are : ArePairs rest others
  pub all : given ≡ one ∷ others

pub first_pair : (text first rest : Text) (given : List Given) → text ≡ first ++ 44 ∷ rest → has 44 first ≡ false → ArePairs text given → First first rest given
first_pair text first rest _ cut plain (last _ one is) = absurd (cc (sym (pair_lacks_comma text one is) ∙ (ap (has 44) cut ∙ has_cut 44 first rest)))
first_pair _ first rest _ cut plain (more front after one others is are) =
    let parts = cut_once 44 front after first rest (pair_lacks_comma front one is) plain cut in
    record { one = one; others = others; is = subst (λ t. IsPair t one) parts.0 is; are = subst (λ t. ArePairs t others) parts.1 are; all = refl }

-- a text without a comma is one pair
pub record Only (text : Text) (given : List Given) : Type 0 where
  pub one : Given
  pub is : IsPair text one
  pub all : given ≡ one ∷ []

pub only_pair : (text : Text) (given : List Given) → has 44 text ≡ false → ArePairs text given → Only text given
only_pair text _ plain (last _ one is) = record { one = one; is = is; all = refl }
only_pair _ _ plain (more front after one others is are) = absurd (cc (sym plain ∙ has_cut 44 front after))
