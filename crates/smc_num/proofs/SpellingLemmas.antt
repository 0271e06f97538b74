-- A text is taken apart just as it is spelled.
use Rattle.std.proofs.Common.{◌≡◌, ℕ, ◌+◌, ◌<◌, ◌≤◌, Bool, true, false, cond, ◌&&◌, ◌||◌, ◌==◌, nat_lt, ℤ, pos, neg_ℤ, ◌-ℤ◌, List, [], ◌∷◌, ◌++◌, length, take, drop, Option, Some, None, option_map, refl, sym, ◌∙◌, ap, ap₂, subst, subst₂, arith, ◌⊎◌, inl, inr, ⊎_elim, eq-eqb, ne_eqb, lt-ltb, le-leb, eqb-true, ◌/◌, ◌^◌, ◌+ℤ◌, Result, Ok, Err, IsErrOf, ◌↔◌}
use Rattle.std.proofs.Common.{take-append-drop, take_all, append-nil, one-add}
use lib.Seq.{take-append_seam, drop-append_seam, length-take-le}
use Rattle.std.proofs.Common.{pos_of_ne-zero}
use Rattle.std.proofs.lemmas.Bool.{eqb-false}
use Rattle.std.proofs.lemmas.List.Sums.{prefix_len-le-length}
use Rattle.std.proofs.lemmas.Bool.{cases_Bool}
use Rattle.std.specs.List.{prefix_len}
use Rattle.std.specs.Char.{is_ascii_digit, digit_value}
use Rattle.std.specs.Str.Parse.{IsNumeral, AllDigits, digits_value}
use Rattle.std.proofs.lemmas.Bool.{cond-true, cond-false, and_from, and_right, and_parts, or_left, or_right, or_cases, ltb-true, lt-leb}
use Rattle.std.proofs.lemmas.Bool.Decides.{nat_tests}
use Rattle.std.proofs.lemmas.Int.{ints}
use Rattle.smc_num.specs.declared.fault.NumFault.{NumFault}
use Rattle.smc_num.specs.declared.fault.ReadNum.{ReadNum}
use Rattle.smc_num.specs.declared.fault.ReadNum.TheVariants.{NotANumber, OutOfLimit}
use Rattle.smc_num.specs.Fraction.{Fraction, limit}
use Rattle.smc_num.specs.Spelling.{zeros_of, is_wide, readable, decimal_of, limited_of, ratio_of, value_of}
use Rattle.smc_num.specs.Taken.{clamped}
use Rattle.smc_num.specs.Spelling.{Written, decimal, ratio, IsMark, IsExponent, none, bare, plus, minus, IsSpelled, whole, point, bar, IsNumber, without_minus, with_minus}
use Rattle.smc_num.specs.Taken.{front_of, rest_of, is_numeral, numeral_of, signed_power_of, power_in, after_point, after_bar, after_digits, after_front, spelled_by, sign_of, unsigned_of, outcome_of}

-- ---- digits

digit_range : (c : ℕ) → digit_value c < 10 → (48 ≤ c) × (c ≤ 57)
digit_range c h = (grind (arith, nat_tests), grind (arith, nat_tests))

digit_tested : (c : ℕ) → digit_value c < 10 → is_ascii_digit c ≡ true
digit_tested c h = let range = digit_range c h in and_from _ _ (le-leb 48 c range.0) (le-leb c 57 range.1)

tested_digit : (c : ℕ) → is_ascii_digit c ≡ true → digit_value c < 10
tested_digit c h = grind (arith, nat_tests)

-- a text does not begin with a digit
StartsOther : List ℕ → Type 0
StartsOther [] = Unit {0}
StartsOther (c ∷ cs) = is_ascii_digit c ≡ false

-- digits with something else after them are the front of a text
prefix_len-digits : (ds rest : List ℕ) → AllDigits 10 ds → StartsOther rest → prefix_len is_ascii_digit (ds ++ rest) ≡ length ds
unfolding StartsOther
prefix_len-digits [] [] all other = refl
prefix_len-digits [] (c ∷ cs) all other = cond-false _ _ _ other
prefix_len-digits (d ∷ ds) rest all other =
    cond-true _ _ _ (digit_tested d all.0) ∙ ap (λ n. 1 + n) (prefix_len-digits ds rest all.1 other) ∙ omega arith

front_of-digits : (ds rest : List ℕ) → AllDigits 10 ds → StartsOther rest → front_of (ds ++ rest) ≡ ds
front_of-digits ds rest all other = ap (λ n. take n (ds ++ rest)) (prefix_len-digits ds rest all other) ∙ take-append_seam ds rest

rest_of-digits : (ds rest : List ℕ) → AllDigits 10 ds → StartsOther rest → rest_of (ds ++ rest) ≡ rest
rest_of-digits ds rest all other = ap (λ n. drop n (ds ++ rest)) (prefix_len-digits ds rest all other) ∙ drop-append_seam ds rest

-- the front of a text is digits, and what follows does not begin with one
pub front_digits : (text : List ℕ) → AllDigits 10 (front_of text)
front_digits [] = tt
front_digits (c ∷ cs) =
    ⊎_elim
    (λ (yes-digit : is_ascii_digit c ≡ true).
    subst (λ n. AllDigits 10 (take n (c ∷ cs))) (sym (cond-true _ _ _ yes-digit ∙ one-add (prefix_len is_ascii_digit cs))) (tested_digit c yes-digit, front_digits cs))
    (λ (other : is_ascii_digit c ≡ false). subst (λ n. AllDigits 10 (take n (c ∷ cs))) (sym (cond-false _ _ _ other)) tt)
    (cases_Bool (is_ascii_digit c))

rest_other : (text : List ℕ) → StartsOther (rest_of text)
unfolding StartsOther
rest_other [] = tt
rest_other (c ∷ cs) =
    ⊎_elim
    (λ (yes-digit : is_ascii_digit c ≡ true).
    subst (λ n. StartsOther (drop n (c ∷ cs))) (sym (cond-true _ _ _ yes-digit ∙ one-add (prefix_len is_ascii_digit cs))) (rest_other cs))
    (λ (other : is_ascii_digit c ≡ false). subst (λ n. StartsOther (drop n (c ∷ cs))) (sym (cond-false _ _ _ other)) other)
    (cases_Bool (is_ascii_digit c))

cut : (text : List ℕ) → front_of text ++ rest_of text ≡ text
cut text = take-append-drop (prefix_len is_ascii_digit text) text

-- ---- numerals

numeral_tested : (ds : List ℕ) → IsNumeral 10 ds → is_numeral ds ≡ true
numeral_tested ds h =
    and_from _ _ (lt-ltb 0 (length ds) h.0)
    (eq-eqb _ _ (ap (prefix_len is_ascii_digit) (sym (append-nil ds)) ∙ prefix_len-digits ds [] h.1 (unfold StartsOther in tt)))

pub tested_numeral : (ds : List ℕ) → is_numeral ds ≡ true → IsNumeral 10 ds
tested_numeral ds h =
    let parts = and_parts _ _ h in
    (ltb-true _ _ parts.0, subst (λ x. AllDigits 10 x) (ap (λ n. take n ds) (eqb-true _ _ parts.1) ∙ take_all (length ds) ds (omega arith)) (front_digits ds))

numeral_found : (ds : List ℕ) → IsNumeral 10 ds → numeral_of ds ≡ Some (digits_value 10 ds)
numeral_found ds h = cond-true _ _ _ (numeral_tested ds h)

-- ---- options

cond_some : {A : Type 0} (b : Bool) (x : Option A) (v : A) → cond b x None ≡ Some v → (b ≡ true) × (x ≡ Some v)
cond_some true x v h = (refl, h)
cond_some false x v h = cc

map_some : {A B : Type 0} (f : A → B) (o : Option A) (v : B) → option_map f o ≡ Some v → (a : A) × (o ≡ Some a) × (f a ≡ v)
map_some f None v h = cc
map_some f (Some a) v h = (a, refl, cc)

found_numeral : (ds : List ℕ) (n : ℕ) → numeral_of ds ≡ Some n → IsNumeral 10 ds × (digits_value 10 ds ≡ n)
found_numeral ds n h = let parts = cond_some (is_numeral ds) (Some (digits_value 10 ds)) n h in (tested_numeral ds parts.0, cc)

cond_cases : {A : Type 0} (b : Bool) (x y v : A) → cond b x y ≡ v → ((b ≡ true) × (x ≡ v)) ⊎ ((b ≡ false) × (y ≡ v))
cond_cases true x y v h = inl (refl, h)
cond_cases false x y v h = inr (refl, h)

-- ---- exponents

mark_tested : (c : ℕ) → IsMark c → (c == 101 || c == 69) ≡ true
mark_tested c (inl h) = or_left _ _ (eq-eqb c 101 h)
mark_tested c (inr h) = or_right _ _ (eq-eqb c 69 h)

tested_mark : (c : ℕ) → (c == 101 || c == 69) ≡ true → IsMark c
tested_mark c h = ⊎_elim (λ a. inl (eqb-true c 101 a)) (λ a. inr (eqb-true c 69 a)) (or_cases _ _ h)

-- a digit is none of the signs
not_sign : (c s : ℕ) → digit_value c < 10 → s < 48 → (c == s) ≡ false
not_sign c s h small = ne_eqb c s (λ e. omega (arith, (digit_range c h).0))

exponent_found : (text : List ℕ) (power : ℤ) → IsExponent text power → power_in text ≡ Some power
unfolding power_in
exponent_found [] p none = refl
exponent_found (mark ∷ digits) p (bare mark' digits' m h) = cond-true _ _ _ (mark_tested _ m) ∙ bare_found _ h
  where
    bare_found : (ds : List ℕ) → IsNumeral 10 ds → signed_power_of ds ≡ Some (pos (digits_value 10 ds))
    bare_found [] h = absurd (omega (arith, h.0))
    bare_found (d ∷ ds) h =
        cond-false _ _ _ (not_sign d 43 h.1.0 (omega arith)) ∙ cond-false _ _ _ (not_sign d 45 h.1.0 (omega arith)) ∙ ap (option_map pos) (numeral_found (d ∷ ds) h)
exponent_found (mark ∷ rest) p (plus mark' digits m h) = cond-true _ _ _ (mark_tested _ m) ∙ ap (option_map pos) (numeral_found digits h)
exponent_found (mark ∷ rest) p (minus mark' digits m h) = cond-true _ _ _ (mark_tested _ m) ∙ ap (option_map (λ n. neg_ℤ (pos n))) (numeral_found digits h)

found_exponent : (text : List ℕ) (power : ℤ) → power_in text ≡ Some power → IsExponent text power
unfolding power_in
found_exponent [] power h = subst (IsExponent []) (cc h) none
found_exponent (mark ∷ cs) power h =
    let parts = cond_some _ _ _ h in
    found_signed mark cs power (tested_mark mark parts.0) parts.1
  where
    found_signed : (mark : ℕ) (cs : List ℕ) (power : ℤ) → IsMark mark → signed_power_of cs ≡ Some power → IsExponent (mark ∷ cs) power
    found_signed mark [] power m h = cc
    found_signed mark (c ∷ cs) power m h =
        elim (cond_cases (c == 43) _ _ _ h) [
          | inl p ↦ (let found = map_some pos (numeral_of cs) power p.1 in
              let number = found_numeral cs found.0 found.1 in
              subst₂ IsExponent (ap (λ z. mark ∷ (z ∷ cs)) (sym (eqb-true c 43 p.0))) (ap pos number.1 ∙ found.2) (plus mark cs m number.0))
          | inr p ↦ elim (cond_cases (c == 45) _ _ _ p.1) [
            | inl q ↦ (let found = map_some (λ n. neg_ℤ (pos n)) (numeral_of cs) power q.1 in
                let number = found_numeral cs found.0 found.1 in
                subst₂ IsExponent (ap (λ z. mark ∷ (z ∷ cs)) (sym (eqb-true c 45 q.0))) (ap (λ n. neg_ℤ (pos n)) number.1 ∙ found.2) (minus mark cs m number.0))
            | inr q ↦ (let found = map_some pos (numeral_of (c ∷ cs)) power q.1 in
                let number = found_numeral (c ∷ cs) found.0 found.1 in
                subst (IsExponent (mark ∷ (c ∷ cs))) (ap pos number.1 ∙ found.2) (bare mark (c ∷ cs) m number.0))
          ]
        ]

mark_other : (c : ℕ) → IsMark c → is_ascii_digit c ≡ false
mark_other c (inl h) = and_right _ _ (lt-leb c 57 (omega (arith, h)))
mark_other c (inr h) = and_right _ _ (lt-leb c 57 (omega (arith, h)))

mark_not : (c s : ℕ) → IsMark c → s < 60 → (c == s) ≡ false
mark_not c s (inl h) small = ne_eqb c s (λ e. omega (arith, h))
mark_not c s (inr h) small = ne_eqb c s (λ e. omega (arith, h))

marked : (front : List ℕ) (mark : ℕ) (cs : List ℕ) (power : ℤ) → IsMark mark → IsNumeral 10 front → power_in (mark ∷ cs) ≡ Some power → after_front front (mark ∷ cs) ≡ Some (decimal front power)
unfolding after_front after_digits
marked front mark cs power m numeral found =
    cond-false _ _ _ (mark_not mark 46 m (omega arith)) ∙ cond-false _ _ _ (mark_not mark 47 m (omega arith)) ∙ cond-true _ _ _ (lt-ltb 0 (length front) numeral.0)
    ∙ ap (option_map (decimal front)) found

-- an exponent does not begin with a digit
exponent_other : (text : List ℕ) (power : ℤ) → IsExponent text power → StartsOther text
unfolding StartsOther
exponent_other text power none = tt
exponent_other text power (bare mark digits m h) = mark_other mark m
exponent_other text power (plus mark digits m h) = mark_other mark m
exponent_other text power (minus mark digits m h) = mark_other mark m

-- ---- numbers without a sign

-- nor with a point or a bar
after_mark : (front exponent : List ℕ) (power : ℤ) → IsExponent exponent power → IsNumeral 10 front → after_front front exponent ≡ Some (decimal front power)
unfolding after_front after_digits power_in
after_mark front text power none numeral = cond-true _ _ _ (lt-ltb 0 (length front) numeral.0)
after_mark front (mark ∷ cs) power (bare mark' digits m h) numeral = marked front mark cs power m numeral (exponent_found _ _ (bare mark digits m h))
after_mark front (mark ∷ cs) power (plus mark' digits m h) numeral = marked front mark cs power m numeral (exponent_found _ _ (plus mark digits m h))
after_mark front (mark ∷ cs) power (minus mark' digits m h) numeral = marked front mark cs power m numeral (exponent_found _ _ (minus mark digits m h))

spelled_found : (text : List ℕ) (w : Written) → IsSpelled text w → spelled_by text ≡ Some w
unfolding spelled_by after_front after_point after_bar StartsOther
spelled_found text w (whole digits exponent power numeral is) =
    let other = exponent_other exponent power is in
    ap₂ after_front (front_of-digits digits exponent numeral.1 other) (rest_of-digits digits exponent numeral.1 other) ∙ after_mark digits exponent power is numeral
spelled_found text w (point front part exponent power digits numeral is) =
    let other = exponent_other exponent power is in
    let count = prefix_len-digits part exponent numeral.1 other in
    ap₂ after_front (front_of-digits front (46 ∷ (part ++ exponent)) digits refl) (rest_of-digits front (46 ∷ (part ++ exponent)) digits refl)
    ∙ cond-false _ _ _ (ap (λ n. n == 0) count ∙ ne_eqb (length part) 0 (λ e. omega (arith, numeral.0)))
    ∙ ap₂ (λ ds p. option_map (λ q. decimal (front ++ ds) (q -ℤ pos (prefix_len is_ascii_digit (part ++ exponent)))) p) (front_of-digits part exponent numeral.1 other) (ap power_in (rest_of-digits part exponent numeral.1 other) ∙ exponent_found exponent power is)
    ∙ ap (λ n. Some (decimal (front ++ part) (power -ℤ pos n))) count
spelled_found text w (bar top bottom numeral below some) =
    ap₂ after_front (front_of-digits top (47 ∷ bottom) numeral.1 refl) (rest_of-digits top (47 ∷ bottom) numeral.1 refl)
    ∙ cond-true _ _ _ (and_from _ _ (lt-ltb 0 (length top) numeral.0) (and_from _ _ (numeral_tested bottom below) (lt-ltb 0 (digits_value 10 bottom) (pos_of_ne-zero some))))

length-front_of : (text : List ℕ) → length (front_of text) ≡ prefix_len is_ascii_digit text
length-front_of text = length-take-le (prefix_len is_ascii_digit text) text (prefix_len-le-length is_ascii_digit text)

found_point : (front cs : List ℕ) (w : Written) → AllDigits 10 front → after_point front cs ≡ Some w → IsSpelled (front ++ (46 ∷ cs)) w
unfolding after_point
found_point front cs w digits h =
    elim (cond_cases (prefix_len is_ascii_digit cs == 0) _ _ _ h) [
      | inl p ↦ cc p.1
      | inr p ↦ (let found = map_some (λ power. decimal (front ++ front_of cs) (power -ℤ pos (prefix_len is_ascii_digit cs))) (power_in (rest_of cs)) w p.1 in
          let count = length-front_of cs in
          let some : 0 < length (front_of cs) = omega (arith, eqb-false _ _ p.0) in
          subst₂ IsSpelled (ap (λ z. front ++ (46 ∷ z)) (cut cs)) (ap (λ n. decimal (front ++ front_of cs) (found.0 -ℤ pos n)) count ∙ found.2)
          (point front (front_of cs) (rest_of cs) found.0 digits (some, front_digits cs) (found_exponent (rest_of cs) found.0 found.1)))
    ]

found_bar : (front cs : List ℕ) (w : Written) → AllDigits 10 front → after_bar front cs ≡ Some w → IsSpelled (front ++ (47 ∷ cs)) w
unfolding after_bar
found_bar front cs w digits h =
    let parts = cond_some _ _ _ h in
    let tests = and_parts _ _ parts.0 in
    let second = and_parts _ _ tests.1 in
    subst (IsSpelled (front ++ (47 ∷ cs))) (cc parts.1)
    (bar front cs (ltb-true _ _ tests.0, digits) (tested_numeral cs second.0) (λ e. omega (arith, ltb-true _ _ second.1, e)))

found_digits : (front rest : List ℕ) (w : Written) → AllDigits 10 front → after_digits front rest ≡ Some w → IsSpelled (front ++ rest) w
unfolding after_digits
found_digits front rest w digits h =
    let parts = cond_some _ _ _ h in
    let found = map_some (decimal front) (power_in rest) w parts.1 in
    subst (IsSpelled (front ++ rest)) found.2 (whole front rest found.0 (ltb-true _ _ parts.0, digits) (found_exponent rest found.0 found.1))

found_front : (front rest : List ℕ) (w : Written) → AllDigits 10 front → after_front front rest ≡ Some w → IsSpelled (front ++ rest) w
unfolding after_front
found_front front [] w digits h = found_digits front [] w digits h
found_front front (c ∷ cs) w digits h =
    elim (cond_cases (c == 46) _ _ _ h) [
      | inl p ↦ subst (λ z. IsSpelled (front ++ (z ∷ cs)) w) (sym (eqb-true c 46 p.0)) (found_point front cs w digits p.1)
      | inr p ↦ elim (cond_cases (c == 47) _ _ _ p.1) [
        | inl q ↦ subst (λ z. IsSpelled (front ++ (z ∷ cs)) w) (sym (eqb-true c 47 q.0)) (found_bar front cs w digits q.1)
        | inr q ↦ found_digits front (c ∷ cs) w digits q.1
      ]
    ]

found_spelled : (text : List ℕ) (w : Written) → spelled_by text ≡ Some w → IsSpelled text w
unfolding spelled_by
found_spelled text w h = subst (λ z. IsSpelled z w) (cut text) (found_front (front_of text) (rest_of text) w (front_digits text) h)

-- ---- numbers

-- a text without a sign does not begin with one
no_sign : (cs : List ℕ) → spelled_by (45 ∷ cs) ≡ None
unfolding spelled_by after_front after_digits
no_sign cs = refl

-- what a text spells is what it is taken apart into
pub number_found : (text : List ℕ) (sign : Bool) (w : Written) → IsNumber text sign w → (sign_of text ≡ sign) × (spelled_by (unsigned_of text) ≡ Some w)
unfolding spelled_by after_front after_digits
number_found text sign w (with_minus rest w' is) = (refl, spelled_found rest w is)
number_found [] sign w (without_minus text w' is) = absurd (cc (spelled_found [] w is))
number_found (c ∷ cs) sign w (without_minus text w' is) =
    let found = spelled_found (c ∷ cs) w is in
    let other : (c == 45) ≡ false = ne_eqb c 45 (λ e. cc (sym (no_sign cs) ∙ subst (λ z. spelled_by (z ∷ cs) ≡ Some w) e found)) in
    (other, ap spelled_by (cond-false _ _ _ other) ∙ found)

pub found_number : (text : List ℕ) (w : Written) → spelled_by (unsigned_of text) ≡ Some w → IsNumber text (sign_of text) w
found_number [] w h = without_minus [] w (found_spelled [] w h)
found_number (c ∷ cs) w h =
    elim (cond_cases (c == 45) cs (c ∷ cs) _ refl) [
      | inl p ↦ subst₂ (λ z s. IsNumber (z ∷ cs) s w) (sym (eqb-true c 45 p.0)) (sym p.0) (with_minus cs w (found_spelled cs w (ap spelled_by p.1 ∙ h)))
      | inr p ↦ subst (λ s. IsNumber (c ∷ cs) s w) (sym p.0) (without_minus (c ∷ cs) w (found_spelled (c ∷ cs) w (ap spelled_by p.1 ∙ h)))
    ]

-- ---- what is read

-- a value is never the answer for what is no number
value-number : (sign : Bool) (w : Written) → value_of sign w ≡ Err NotANumber → ⊥
unfolding decimal_of limited_of ratio_of
value-number sign (decimal digits power) e = decided (digits_value 10 digits == 0) (is_wide (digits_value 10 digits / 10 ^ zeros_of (digits_value 10 digits)) (power +ℤ pos (zeros_of (digits_value 10 digits)))) _ e
  where
    decided : (zero_digits wide : Bool) (r : Result Fraction NumFault) → cond zero_digits (Ok (record { num = pos 0; den = 1 })) (cond wide (Err OutOfLimit) (readable r)) ≡ Err NotANumber → ⊥
    decided true wide r e = cc
    decided false true r e = cc
    decided false false (Ok f) e = cc
    decided false false (Err fault) e = cc
value-number sign (ratio top bottom) e = decided (nat_lt (digits_value 10 top) limit && nat_lt (digits_value 10 bottom) limit) _ e
  where
    decided : (small : Bool) (r : Result Fraction NumFault) → cond small (readable r) (Err OutOfLimit) ≡ Err NotANumber → ⊥
    decided true (Ok f) e = cc
    decided true (Err fault) e = cc
    decided false r e = cc

pub read_value : (text : List ℕ) (r : Result Fraction ReadNum) → r ≡ outcome_of (sign_of text) (spelled_by (unsigned_of text)) → (sign : Bool) (w : Written) → IsNumber text sign w → r ≡ value_of sign w
read_value text r is sign w number =
    let found = number_found text sign w number in
    is ∙ ap₂ outcome_of found.0 found.1

pub read_other : (text : List ℕ) (r : Result Fraction ReadNum) → r ≡ outcome_of (sign_of text) (spelled_by (unsigned_of text)) → IsErrOf r NotANumber ↔ ((sign : Bool) (w : Written) → IsNumber text sign w → ⊥)
read_other text r is = (
  λ e sign w number. value-number sign w (sym (read_value text r is sign w number) ∙ e),
  λ none_spelled. is ∙ by_cases (spelled_by (unsigned_of text)) refl none_spelled,
)
  where
    by_cases : (o : Option Written) → spelled_by (unsigned_of text) ≡ o → ((sign : Bool) (w : Written) → IsNumber text sign w → ⊥) → outcome_of (sign_of text) o ≡ Err NotANumber
    by_cases None h none_spelled = refl
    by_cases (Some w) h none_spelled = absurd (none_spelled (sign_of text) w (found_number text w h))

-- ---- after the digits

-- a power that was found gives the value
pub digits_outcome : (sign : Bool) (front rest : List ℕ) (power : ℤ) (r : Result Fraction ReadNum) → 0 < length front → Some power ≡ option_map clamped (power_in rest)
    → ((p : ℤ) → power ≡ clamped p → r ≡ decimal_of sign (digits_value 10 (front ++ [])) (p -ℤ pos 0)) → r ≡ outcome_of sign (after_digits front rest)
unfolding after_digits
digits_outcome sign front rest power r some is value =
    let found = map_some clamped (power_in rest) power (sym is) in
    value found.0 (sym found.2)
    ∙ ap₂ (λ ds p. decimal_of sign (digits_value 10 ds) p) (append-nil front) (minus_nothing found.0)
    ∙ sym (ap (outcome_of sign) (cond-true _ _ _ (lt-ltb 0 (length front) some) ∙ ap (option_map (decimal front)) found.1))
  where
    minus_nothing : (p : ℤ) → p -ℤ pos 0 ≡ p
    minus_nothing p = omega (arith, ints)

pub digits_missing : (sign : Bool) (front rest : List ℕ) → None ≡ option_map clamped (power_in rest) → Err NotANumber ≡ outcome_of sign (after_digits front rest)
unfolding after_digits
digits_missing sign front rest is = sym (by_cases (nat_lt 0 (length front)) (power_in rest) is)
  where
    by_cases : (b : Bool) (o : Option ℤ) → None ≡ option_map clamped o → outcome_of sign (cond b (option_map (decimal front) o) None) ≡ Err NotANumber
    by_cases b (Some p) h = cc
    by_cases true None h = refl
    by_cases false None h = refl
