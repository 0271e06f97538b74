-- The number that is found at the front of a text is the longest one.
use Rattle.std.proofs.Common.{◌≡◌, ℕ, suc, ◌+◌, ◌≤◌, ◌<◌, ℤ, pos, neg_ℤ, ◌-ℤ◌, true, false, ◌&&◌, ◌||◌, ◌==◌, nat_lt, List, [], ◌∷◌, ◌++◌, length, take, drop, ◌⊎◌, inl, inr, ⊎_elim, refl, sym, ◌∙◌, ap, subst, arith, one-add, lt-ltb, le-leb, eq-eqb, append_assoc, length-append, take-append-drop}
use lib.Seq.{drop-append_seam, length-take-le}
use Rattle.std.specs.List.{list_all}
use Rattle.std.specs.Char.{is_ascii_digit, digit_value}
use Rattle.std.specs.Str.Parse.{IsNumeral, AllDigits, digits_value}
use Rattle.std.proofs.lemmas.Bool.{cases_Bool, cond-true, cond-false, and_from, and_parts, or_left, or_right, or_cases, ltb-true, eqb-true}
use Rattle.std.proofs.lemmas.Bool.Decides.{nat_tests}
use Rattle.std.proofs.lemmas.List.Sums.{prefix_len-le-length}
use Rattle.smc_num.specs.Spelling.{Written, decimal, IsMark, IsExponent, none, bare, plus, minus, IsSpelled, whole, point, bar}
use Rattle.prism_lexer.specs.Scan.{digits_len, fraction_len, sign_len, exponent_len}
use Rattle.prism_lexer.specs.Lexemes.{IsReal}
use Rattle.prism_lexer.proofs.RunLemmas.{Stops, run_passes, run_whole, run_most, front_is}

-- ---- digits

digit_tested : (c : ℕ) → digit_value c < 10 → is_ascii_digit c ≡ true
digit_tested c h = let low : 48 ≤ c = grind (arith, nat_tests) in let high : c ≤ 57 = grind (arith, nat_tests) in and_from _ _ (le-leb 48 c low) (le-leb c 57 high)

tested_digit : (c : ℕ) → is_ascii_digit c ≡ true → digit_value c < 10
tested_digit c h = grind (arith, nat_tests)

pub digits_tested : (ds : List ℕ) → AllDigits 10 ds → list_all is_ascii_digit ds ≡ true
digits_tested [] all = refl
digits_tested (d ∷ ds) all = and_from _ _ (digit_tested d all.0) (digits_tested ds all.1)

pub tested_digits : (ds : List ℕ) → list_all is_ascii_digit ds ≡ true → AllDigits 10 ds
tested_digits [] all = tt
tested_digits (d ∷ ds) all = let parts = and_parts _ _ all in (tested_digit d parts.0, tested_digits ds parts.1)

-- the digits of a text's front are digits
front_digits : (text : List ℕ) → AllDigits 10 (take (digits_len text) text)
front_digits text = tested_digits _ (run_passes is_ascii_digit text)

front_length : (text : List ℕ) → length (take (digits_len text) text) ≡ digits_len text
front_length text = length-take-le (digits_len text) text (prefix_len-le-length is_ascii_digit text)

-- the end of a text of digits is digits
digits_end : (a b : List ℕ) → AllDigits 10 (a ++ b) → AllDigits 10 b
digits_end [] b all = all
digits_end (c ∷ cs) b all = digits_end cs b all.1

-- ---- exponents

-- `e` and `E` are marks, and no digits nor points
mark_tested : (m : ℕ) → IsMark m → (m == 101 || m == 69) ≡ true
mark_tested m (inl is) = or_left _ _ (eq-eqb m 101 is)
mark_tested m (inr is) = or_right _ _ (eq-eqb m 69 is)

mark_no_digit : (m : ℕ) → IsMark m → is_ascii_digit m ≡ false
mark_no_digit m (inl is) = subst (λ c. is_ascii_digit c ≡ false) (sym is) refl
mark_no_digit m (inr is) = subst (λ c. is_ascii_digit c ≡ false) (sym is) refl

mark_no_fraction : (m : ℕ) (rest : List ℕ) → IsMark m → fraction_len (m ∷ rest) ≡ 0
unfolding fraction_len
mark_no_fraction m rest (inl is) = subst (λ c. fraction_len (c ∷ rest) ≡ 0) (sym is) refl
mark_no_fraction m rest (inr is) = subst (λ c. fraction_len (c ∷ rest) ≡ 0) (sym is) refl

-- an exponent is nothing, or begins with a mark
pub Marked : List ℕ → Type 0
Marked text = (m : ℕ) × (rest : List ℕ) × IsMark m × (text ≡ m ∷ rest)

exponent_shape : (text : List ℕ) (power : ℤ) → IsExponent text power → (text ≡ []) ⊎ Marked text
unfolding Marked
exponent_shape _ _ none = inl refl
exponent_shape _ _ (bare mark digits is numeral) = inr (mark, digits, is, refl)
exponent_shape _ _ (plus mark digits is numeral) = inr (mark, 43 ∷ digits, is, refl)
exponent_shape _ _ (minus mark digits is numeral) = inr (mark, 45 ∷ digits, is, refl)

-- a digit is no sign
signless : (d : ℕ) (rest : List ℕ) → digit_value d < 10 → sign_len (d ∷ rest) ≡ 0
unfolding sign_len
signless d rest digit = let low : 48 ≤ d = grind (arith, nat_tests) in grind (arith, nat_tests)

-- digits have no sign before them
no_sign : (digits rest : List ℕ) → IsNumeral 10 digits → sign_len (digits ++ rest) ≡ 0
no_sign [] rest numeral = absurd (omega (arith, numeral.0))
no_sign (d ∷ ds) rest numeral = signless d (ds ++ rest) numeral.1.0

-- a mark, a sign and digits are so long an exponent
exponent_at : (mark : ℕ) (rest digits after : List ℕ) → IsMark mark → IsNumeral 10 digits → drop (sign_len rest) rest ≡ digits ++ after
    → 1 + sign_len rest + length digits ≤ exponent_len (mark ∷ rest)
unfolding exponent_len
exponent_at mark rest digits after is numeral cut =
    let most : length digits ≤ digits_len (drop (sign_len rest) rest) = subst (λ t. length digits ≤ digits_len t) (sym cut) (run_most is_ascii_digit digits after (digits_tested digits numeral.1)) in
    let some : 0 < digits_len (drop (sign_len rest) rest) = omega (arith, numeral.0) in
    let whole_len : exponent_len (mark ∷ rest) ≡ 1 + sign_len rest + digits_len (drop (sign_len rest) rest) = cond-true _ _ _ (and_from _ _ (mark_tested mark is) (lt-ltb _ _ some)) in
    omega arith

-- an exponent at the front of a text is no longer than the one that is found
exponent_most : (text rest : List ℕ) (power : ℤ) → IsExponent text power → length text ≤ exponent_len (text ++ rest)
unfolding sign_len
exponent_most _ rest _ none = omega arith
exponent_most _ rest _ (bare mark digits is numeral) =
    let unsigned : sign_len (digits ++ rest) ≡ 0 = no_sign digits rest numeral in
    let found = exponent_at mark (digits ++ rest) digits rest is numeral (ap (λ n. drop n (digits ++ rest)) unsigned) in
    omega arith
exponent_most _ rest _ (plus mark digits is numeral) = let found = exponent_at mark (43 ∷ (digits ++ rest)) digits rest is numeral refl in omega (arith, found)
exponent_most _ rest _ (minus mark digits is numeral) = let found = exponent_at mark (45 ∷ (digits ++ rest)) digits rest is numeral refl in omega (arith, found)

-- the exponent that is found, and what follows it
pub record Exponent (text : List ℕ) (n : ℕ) : Type 0 where
  pub bytes : List ℕ
  pub rest : List ℕ
  pub power : ℤ
  pub is : IsExponent bytes power
  pub cut : text ≡ bytes ++ rest
  pub size : length bytes ≡ n
  pub shape : (bytes ≡ []) ⊎ Marked bytes

-- a text after a sign or without one
data Signed (cs : List ℕ) : Type 0 where
  unsigned : sign_len cs ≡ 0 → cs ≡ drop (sign_len cs) cs → Signed cs
  with_plus : sign_len cs ≡ 1 → cs ≡ 43 ∷ drop (sign_len cs) cs → Signed cs
  with_minus : sign_len cs ≡ 1 → cs ≡ 45 ∷ drop (sign_len cs) cs → Signed cs

signed : (cs : List ℕ) → Signed cs
unfolding sign_len
signed [] = unsigned refl refl
signed (s ∷ ss) =
    ⊎_elim
    (λ (is_true : (s == 43 || s == 45) ≡ true).
    let one : sign_len (s ∷ ss) ≡ 1 = cond-true _ _ _ is_true in
    ⊎_elim
    (λ (is : (s == 43) ≡ true). with_plus one (ap (λ c. c ∷ ss) (eqb-true s 43 is) ∙ ap (λ n. 43 ∷ drop n (s ∷ ss)) (sym one)))
    (λ (is : (s == 45) ≡ true). with_minus one (ap (λ c. c ∷ ss) (eqb-true s 45 is) ∙ ap (λ n. 45 ∷ drop n (s ∷ ss)) (sym one)))
    (or_cases _ _ is_true))
    (λ (is_false : (s == 43 || s == 45) ≡ false).
    let zero_len : sign_len (s ∷ ss) ≡ 0 = cond-false _ _ _ is_false in
    unsigned zero_len (ap (λ n. drop n (s ∷ ss)) (sym zero_len)))
    (cases_Bool (s == 43 || s == 45))

tested_mark : (m : ℕ) → (m == 101 || m == 69) ≡ true → IsMark m
tested_mark m is_true = ⊎_elim (λ (is : (m == 101) ≡ true). inl (eqb-true m 101 is)) (λ (is : (m == 69) ≡ true). inr (eqb-true m 69 is)) (or_cases _ _ is_true)

front_numeral : (text : List ℕ) → 0 < digits_len text → IsNumeral 10 (take (digits_len text) text)
front_numeral text some = let size = front_length text in (omega (arith, size), front_digits text)

-- the exponent that is found is one
pub exponent_found : (text : List ℕ) → Exponent text (exponent_len text)
unfolding exponent_len Marked
exponent_found [] = record { bytes = []; rest = []; power = pos 0; is = none; cut = refl; size = refl; shape = inl refl }
exponent_found (m ∷ cs) =
    let after : List ℕ = drop (sign_len cs) cs in
    let digits : List ℕ = take (digits_len after) after in
    let rest : List ℕ = drop (digits_len after) after in
    let split : after ≡ digits ++ rest = sym (take-append-drop (digits_len after) after) in
    let size : length digits ≡ digits_len after = front_length after in
    ⊎_elim
    (λ (is_true : ((m == 101 || m == 69) && nat_lt 0 (digits_len after)) ≡ true).
    let parts = and_parts _ _ is_true in
    let mark : IsMark m = tested_mark m parts.0 in
    let numeral : IsNumeral 10 digits = front_numeral after (ltb-true _ _ parts.1) in
    let long : exponent_len (m ∷ cs) ≡ 1 + sign_len cs + digits_len after = cond-true _ _ _ is_true in
    elim (signed cs) [
      | unsigned none_len same ↦ record { bytes = m ∷ digits; rest = rest; power = pos (digits_value 10 digits); is = bare m digits mark numeral; cut = ap (λ t. m ∷ t) (same ∙ split); size = omega (arith, size, long, none_len); shape = inr (m, digits, mark, refl) }
      | with_plus one_len same ↦ record { bytes = m ∷ (43 ∷ digits); rest = rest; power = pos (digits_value 10 digits); is = plus m digits mark numeral; cut = ap (λ t. m ∷ t) (same ∙ ap (λ t. 43 ∷ t) split); size = omega (arith, size, long, one_len); shape = inr (m, 43 ∷ digits, mark, refl) }
      | with_minus one_len same ↦ record { bytes = m ∷ (45 ∷ digits); rest = rest; power = neg_ℤ (pos (digits_value 10 digits)); is = minus m digits mark numeral; cut = ap (λ t. m ∷ t) (same ∙ ap (λ t. 45 ∷ t) split); size = omega (arith, size, long, one_len); shape = inr (m, 45 ∷ digits, mark, refl) }
    ])
    (λ (is_false : ((m == 101 || m == 69) && nat_lt 0 (digits_len after)) ≡ false).
    record { bytes = []; rest = m ∷ cs; power = pos 0; is = none; cut = refl; size = sym (cond-false _ _ _ is_false); shape = inl refl })
    (cases_Bool ((m == 101 || m == 69) && nat_lt 0 (digits_len after)))

-- ---- fractions

-- a fraction is nothing, or a point and digits
pub Pointed : List ℕ → Type 0
Pointed text = (part : List ℕ) × IsNumeral 10 part × (text ≡ 46 ∷ part)

-- the fraction that is found, with what follows it
pub record Fraction (text : List ℕ) (n : ℕ) : Type 0 where
  pub bytes : List ℕ
  pub cut : text ≡ bytes ++ drop n text
  pub size : length bytes ≡ n
  pub shape : (bytes ≡ []) ⊎ Pointed bytes

pub fraction_found : (text : List ℕ) → Fraction text (fraction_len text)
unfolding fraction_len Pointed
fraction_found [] = record { bytes = []; cut = refl; size = refl; shape = inl refl }
fraction_found (c ∷ cs) =
    ⊎_elim
    (λ (is_true : (c == 46 && nat_lt 0 (digits_len cs)) ≡ true).
    let parts = and_parts _ _ is_true in
    let long : fraction_len (c ∷ cs) ≡ 1 + digits_len cs = cond-true _ _ _ is_true in
    let size = front_length cs in
    record {
      bytes = 46 ∷ take (digits_len cs) cs;
      cut = ap (λ b. b ∷ cs) (eqb-true c 46 parts.0) ∙ ap (λ t. 46 ∷ t) (sym (take-append-drop (digits_len cs) cs)) ∙ ap (λ n. (46 ∷ take (digits_len cs) cs) ++ drop n (c ∷ cs)) (sym (long ∙ one-add (digits_len cs)));
      size = omega (arith, size, long);
      shape = inr (take (digits_len cs) cs, front_numeral cs (ltb-true _ _ parts.1), refl);
    })
    (λ (is_false : (c == 46 && nat_lt 0 (digits_len cs)) ≡ false).
    let none_len : fraction_len (c ∷ cs) ≡ 0 = cond-false _ _ _ is_false in
    record { bytes = []; cut = ap (λ n. drop n (c ∷ cs)) (sym none_len); size = sym none_len; shape = inl refl })
    (cases_Bool (c == 46 && nat_lt 0 (digits_len cs)))

-- ---- numbers

-- how long what follows the digits of a number is
unfoldable pub tail_len : List ℕ → ℕ
tail_len text = fraction_len text + exponent_len (drop (fraction_len text) text)

-- what follows the digits of a text
unfoldable pub after_digits : List ℕ → List ℕ
after_digits text = drop (digits_len text) text

-- how long the number at the front of a text is
unfoldable pub number_len : List ℕ → ℕ
number_len text = digits_len text + tail_len (after_digits text)

-- the parts of the number that is found
record Parts (text : List ℕ) : Type 0 where
  digits : List ℕ
  fraction : List ℕ
  exponent : List ℕ
  rest : List ℕ
  power : ℤ
  cut : text ≡ (digits ++ (fraction ++ exponent)) ++ rest
  are_digits : AllDigits 10 digits
  digits_size : length digits ≡ digits_len text
  fraction_size : length fraction ≡ fraction_len (after_digits text)
  exponent_size : length exponent ≡ exponent_len (drop (fraction_len (after_digits text)) (after_digits text))
  is : IsExponent exponent power
  fraction_shape : (fraction ≡ []) ⊎ Pointed fraction
  exponent_shape : (exponent ≡ []) ⊎ Marked exponent

parts_of : (text : List ℕ) → Parts text
unfolding after_digits
parts_of text =
    let after : List ℕ = drop (digits_len text) text in
    let point = fraction_found after in
    let mark = exponent_found (drop (fraction_len after) after) in
    record {
      digits = take (digits_len text) text;
      fraction = point.bytes;
      exponent = mark.bytes;
      rest = mark.rest;
      power = mark.power;
      cut = sym (take-append-drop (digits_len text) text)
          ∙ ap (λ t. take (digits_len text) text ++ t) (point.cut ∙ ap (λ t. point.bytes ++ t) mark.cut ∙ sym (append_assoc point.bytes mark.bytes mark.rest))
          ∙ sym (append_assoc (take (digits_len text) text) (point.bytes ++ mark.bytes) mark.rest);
      are_digits = front_digits text;
      digits_size = front_length text;
      fraction_size = point.size;
      exponent_size = mark.size;
      is = mark.is;
      fraction_shape = point.shape;
      exponent_shape = mark.shape;
    }

-- what is found without a fraction and an exponent is a whole number
pub number_whole : (text : List ℕ) → 0 < digits_len text → tail_len (after_digits text) ≡ 0 → IsNumeral 10 (take (number_len text) text)
unfolding number_len
number_whole text some nothing =
    let same : number_len text ≡ digits_len text = omega arith in
    subst (λ n. IsNumeral 10 (take n text)) (sym same) (front_numeral text some)

-- digits, a fraction or an exponent: no whole number
real_parts : (digits fraction exponent : List ℕ) (power : ℤ) → AllDigits 10 digits → IsExponent exponent power
    → (fraction ≡ []) ⊎ Pointed fraction → (exponent ≡ []) ⊎ Marked exponent
    → 0 < length digits + length fraction → (length fraction + length exponent ≡ 0 → ⊥) → IsReal (digits ++ (fraction ++ exponent))
unfolding Pointed Marked
real_parts digits fraction exponent power all is (inl no_fraction) (inl no_exponent) some more =
    absurd (more (omega (arith, ap length no_fraction, ap length no_exponent)))
real_parts digits fraction exponent power all is (inl no_fraction) (inr (m, rest, mark, same)) some more =
    subst (λ p. IsReal (digits ++ (p ++ exponent))) (sym no_fraction) (record {
      digits = digits;
      power = power;
      spelled = whole digits exponent power (omega (arith, some, ap length no_fraction), all) is;
      not_whole = λ numeral.
          let marked : AllDigits 10 (m ∷ rest) = subst (AllDigits 10) same (digits_end digits exponent numeral.1) in
          let clash : true ≡ false = sym (digit_tested m marked.0) ∙ mark_no_digit m mark in
          cc;
    })
real_parts digits fraction exponent power all is (inr (part, numeral, same)) shape some more =
    subst (λ p. IsReal (digits ++ (p ++ exponent))) (sym same) (record {
      digits = digits ++ part;
      power = power -ℤ pos (length part);
      spelled = point digits part exponent power all numeral is;
      not_whole = λ whole_number.
          let pointed : AllDigits 10 (46 ∷ (part ++ exponent)) = digits_end digits (46 ∷ (part ++ exponent)) whole_number.1 in
          absurd (omega (arith, pointed.0));
    })

-- what is found with a fraction or an exponent is no whole number
pub number_real : (text : List ℕ) → 0 < digits_len text + fraction_len (after_digits text) → (tail_len (after_digits text) ≡ 0 → ⊥) → IsReal (take (number_len text) text)
unfolding number_len tail_len
number_real text some more =
    let p = parts_of text in
    let outer = length-append p.digits (p.fraction ++ p.exponent) in
    let inner = length-append p.fraction p.exponent in
    let size : length (p.digits ++ (p.fraction ++ p.exponent)) ≡ number_len text = omega (arith, outer, inner, p.digits_size, p.fraction_size, p.exponent_size) in
    subst IsReal (sym (front_is text (p.digits ++ (p.fraction ++ p.exponent)) p.rest (number_len text) p.cut size))
    (real_parts p.digits p.fraction p.exponent p.power p.are_digits p.is p.fraction_shape p.exponent_shape
    (omega (arith, some, p.digits_size, p.fraction_size))
    (λ nothing. more (omega (arith, nothing, p.fraction_size, p.exponent_size))))

-- the number that is found goes no further than the text
pub number_within : (text : List ℕ) → number_len text ≤ length text
unfolding number_len tail_len
number_within text =
    let p = parts_of text in
    omega (arith, ap length p.cut, length-append (p.digits ++ (p.fraction ++ p.exponent)) p.rest, length-append p.digits (p.fraction ++ p.exponent), length-append p.fraction p.exponent, p.digits_size, p.fraction_size, p.exponent_size)

-- a number at the front of a text is no longer than the one that is found
pub record Most (front text : List ℕ) : Type 0 where
  pub size : length front ≤ number_len text
  pub begins : 0 < digits_len text + fraction_len (after_digits text)

at_digits : (digits rest : List ℕ) → AllDigits 10 digits → Stops is_ascii_digit rest → (digits_len (digits ++ rest) ≡ length digits) × (after_digits (digits ++ rest) ≡ rest)
unfolding after_digits
at_digits digits rest all stops =
    let size = run_whole is_ascii_digit digits rest (digits_tested digits all) stops in
    (size, ap (λ n. drop n (digits ++ rest)) size ∙ drop-append_seam digits rest)

numeral_most : (digits rest : List ℕ) → IsNumeral 10 digits → Most digits (digits ++ rest)
unfolding number_len
numeral_most digits rest numeral =
    let most : length digits ≤ digits_len (digits ++ rest) = run_most is_ascii_digit digits rest (digits_tested digits numeral.1) in
    record { size = omega (arith, most); begins = omega (arith, most, numeral.0) }

-- digits and an exponent
scaled_most : (digits exponent rest : List ℕ) (power : ℤ) → IsNumeral 10 digits → IsExponent exponent power → (exponent ≡ []) ⊎ Marked exponent → Most (digits ++ exponent) (digits ++ (exponent ++ rest))
unfolding number_len tail_len Marked
scaled_most digits exponent rest power numeral is (inl nothing) =
    let plain = numeral_most digits (exponent ++ rest) numeral in
    record { size = omega (arith, plain.size, length-append digits exponent, ap length nothing); begins = plain.begins }
scaled_most digits exponent rest power numeral is (inr (m, more, mark, same)) =
    let text : List ℕ = digits ++ (exponent ++ rest) in
    let at = at_digits digits (exponent ++ rest) numeral.1 (subst (λ e. Stops is_ascii_digit (e ++ rest)) (sym same) (mark_no_digit m mark)) in
    let no_point : fraction_len (exponent ++ rest) ≡ 0 = subst (λ e. fraction_len (e ++ rest) ≡ 0) (sym same) (mark_no_fraction m (more ++ rest) mark) in
    let most : length exponent ≤ exponent_len (exponent ++ rest) = exponent_most exponent rest power is in
    let tail : tail_len (after_digits text) ≡ exponent_len (exponent ++ rest) = ap tail_len at.1 ∙ (λ i. no_point i + exponent_len (drop (no_point i) (exponent ++ rest))) ∙ omega arith in
    record {
      size = omega (arith, at.0, tail, most, length-append digits exponent);
      begins = omega (arith, at.0, numeral.0);
    }

-- digits, a point, digits and an exponent
pointed_most : (front part exponent rest : List ℕ) (power : ℤ) → AllDigits 10 front → IsNumeral 10 part → IsExponent exponent power → (exponent ≡ []) ⊎ Marked exponent
    → Most (front ++ (46 ∷ (part ++ exponent))) (front ++ (46 ∷ (part ++ (exponent ++ rest))))
unfolding number_len tail_len fraction_len Marked
pointed_most front part exponent rest power all numeral is shape =
    let after : List ℕ = 46 ∷ (part ++ (exponent ++ rest)) in
    let text : List ℕ = front ++ after in
    let at = at_digits front after all refl in
    let run : length part ≤ digits_len (part ++ (exponent ++ rest)) = run_most is_ascii_digit part (exponent ++ rest) (digits_tested part numeral.1) in
    let some : 0 < digits_len (part ++ (exponent ++ rest)) = omega (arith, run, numeral.0) in
    let point_len : fraction_len after ≡ 1 + digits_len (part ++ (exponent ++ rest)) = cond-true _ _ _ (lt-ltb 0 (digits_len (part ++ (exponent ++ rest))) some) in
    let begins : fraction_len (after_digits text) ≡ fraction_len after = ap fraction_len at.1 in
    let tail : tail_len (after_digits text) ≡ tail_len after = ap tail_len at.1 in
    let outer = length-append front (46 ∷ (part ++ exponent)) in
    let inner = length-append part exponent in
    record {
      size = elim shape [
        | inl nothing ↦ omega (arith, at.0, tail, point_len, run, outer, inner, ap length nothing)
        | inr (m, more, mark, same) ↦
            let whole_run : digits_len (part ++ (exponent ++ rest)) ≡ length part = run_whole is_ascii_digit part (exponent ++ rest) (digits_tested part numeral.1) (subst (λ e. Stops is_ascii_digit (e ++ rest)) (sym same) (mark_no_digit m mark)) in
            let behind : drop (fraction_len after) after ≡ exponent ++ rest = ap (λ n. drop n after) (point_len ∙ one-add _ ∙ ap suc whole_run) ∙ drop-append_seam part (exponent ++ rest) in
            let most : length exponent ≤ exponent_len (exponent ++ rest) = exponent_most exponent rest power is in
            omega (arith, at.0, tail, point_len, whole_run, ap exponent_len behind, most, outer, inner)
      ];
      begins = omega (arith, begins, point_len);
    }

spelled_most : (text : List ℕ) (written : Written) (digits : List ℕ) (power : ℤ) → IsSpelled text written → written ≡ decimal digits power → (rest : List ℕ) → Most text (text ++ rest)
spelled_most _ _ ds p (whole digits exponent power numeral is) same rest =
    subst (Most (digits ++ exponent)) (sym (append_assoc digits exponent rest)) (scaled_most digits exponent rest power numeral is (exponent_shape exponent power is))
spelled_most _ _ ds p (point front part exponent power all numeral is) same rest =
    subst (Most (front ++ (46 ∷ (part ++ exponent))))
    (ap (λ t. front ++ (46 ∷ t)) (sym (append_assoc part exponent rest)) ∙ sym (append_assoc front (46 ∷ (part ++ exponent)) rest))
    (pointed_most front part exponent rest power all numeral is (exponent_shape exponent power is))
spelled_most _ _ ds p (bar top bottom first second some) same rest = absurd (cc)

-- a whole number or one with a fraction or an exponent
abbrev pub IsNumberText : List ℕ → Type 0
IsNumberText text = IsNumeral 10 text ⊎ IsReal text

pub number_most : (front rest : List ℕ) → IsNumberText front → Most front (front ++ rest)
number_most front rest (inl numeral) = numeral_most front rest numeral
number_most front rest (inr real) = spelled_most front (decimal real.digits real.power) real.digits real.power real.spelled refl rest
