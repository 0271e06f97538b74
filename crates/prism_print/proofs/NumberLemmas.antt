-- A number of a well-formed token is spelled as that token.
use Rattle.std.proofs.Common.{◌≡◌, ◌≢◌, ℕ, zero, suc, ◌+◌, ◌-◌, ◌*◌, ◌/◌, ◌%◌, ◌^◌, ◌<◌, ◌≤◌, Bool, true, false, not, cond, List, [], ◌∷◌, ◌++◌, length, map, refl, sym, ◌∙◌, ap, ap₂, subst, arith, inl, inr, eq-zero-or-pos, eq-or-lt_of_le, mul_assoc, mul_comm, mul_right_comm, mul-one, one-mul, pow-suc, pow-add, mod-lt, ne_eqb, le-leb, eq-eqb, ℤ, pos, negsuc, ◌+ℤ◌, ◌-ℤ◌, ◌*ℤ◌, int_lt, unsigned_abs, nat_le, ◌&&◌, Option, Some, None, Result, Ok, Err}
use Rattle.std.specs.Prelude.{decimal}
use Rattle.std.specs.List.{range_with_len}
use Rattle.std.specs.Int.{◌∣◌}
use Rattle.std.specs.Char.{digit_value}
use Rattle.std.specs.Str.Parse.{IsNumeral, AllDigits, digits_value, digits_value_after}
use Rattle.std.proofs.lemmas.Bool.{cond-true, cond-false, or_parts, leb-false, false≢true, cond_both, cases_lt}
use Rattle.std.proofs.lemmas.Fmt.{decimal_is_IsNumeral}
use borrow.Author.Differences.{same_in}
use Rattle.std.proofs.lemmas.Int.{ints, unsigned_abs-mul}
use Rattle.std.proofs.lemmas.List.{append-nil}
use Rattle.std.proofs.lemmas.List.FromFn.{map-range_with_len_more, length-map-range_with_len}
use Rattle.std.proofs.lemmas.Nat.Gcd.{dvd_trans, mod-eq-zero_of_dvd, dvd_of_mod-eq-zero, le_of_dvd}
use Rattle.std.proofs.lemmas.Str.{digit_value_digit}
use native.Mathlib.Nat.{zero-mul, mul-le-mul_left, pow-zero, div-one, div-le_self, div-mul_cancel, div-add-mod', div-div-eq-div-mul, mul-div-mul_right, dvd-mul_left, one-dvd, one-le-pow, mul-le-mul_right, eq_of_mul-eq-mul_right, mul-mod_left}
use Rattle.smc_num.specs.declared.fault.NumFault.{NumFault}
use Rattle.smc_num.specs.declared.fault.ReadNum.{ReadNum}
use Rattle.smc_num.specs.declared.fault.ReadNum.TheVariants.{OutOfLimit}
use Rattle.smc_num.specs.Digits.{IsSignificant}
use Rattle.smc_num.specs.Fraction.{Fraction, IsFrac, HasValue, limit, signed, lowest}
use Rattle.smc_num.specs.Gcd.{greatest, divides}
use Rattle.smc_num.specs.Spelling.{IsSpelled, decimal as written_decimal, none, point, is_wide, readable, scaled_of, limited_of, decimal_of, zeros_of, value_of}
use Rattle.smc_num.proofs.GcdLemmas.{greatest_passes, divides-true, true-divides, coprime-swap, coprime_one, dvd_of_coprime}
use Rattle.smc_num.proofs.LowestLemmas.{IsFrac-signed, lowest-IsFrac, same_fraction}
use Rattle.smc_num.proofs.WideLemmas.{limited_wide}
use Rattle.smc_num.proofs.DigitsLemmas.{value_append, decimal-zero, decimal-significant}
use Rattle.prism_syntax.specs.declared.tokens.Kind.{Kind}
use Rattle.prism_syntax.specs.declared.tokens.Kind.TheVariants as k
use Rattle.prism_syntax.specs.Spelling.{spelling_of}
use Rattle.prism_syntax.specs.Tokens.{IsToken, number_kind}
use Rattle.prism_syntax.specs.Tokens as token
use Rattle.prism_syntax.specs.WellFormed.{IsFormedKind}
use Rattle.prism_print.specs.Decimals.{decimals_of, digit_after_point, point_decimal}
use Rattle.prism_print.specs.Pieces.{spelled}
use Rattle.prism_print.proofs.DecimalLemmas.{divides_more, not_not}

-- ---- what a token of a number says

-- the value of a number that has a kind
whole_value : (r : Result Fraction ReadNum) (v : Fraction) → number_kind k.Whole r ≡ Some (k.Whole v) → r ≡ Ok v
whole_value (Ok f) v is = cc
whole_value (Err fault) v is = absurd (cc)

real_value : (r : Result Fraction ReadNum) (v : Fraction) → number_kind k.Real r ≡ Some (k.Real v) → r ≡ Ok v
real_value (Ok f) v is = cc
real_value (Err fault) v is = absurd (cc)

-- a whole number is no real number
not_both : (r : Result Fraction ReadNum) (v : Fraction) → number_kind k.Whole r ≡ Some (k.Real v) → ⊥
not_both (Ok f) v is = cc
not_both (Err fault) v is = cc

nor_both : (r : Result Fraction ReadNum) (v : Fraction) → number_kind k.Real r ≡ Some (k.Whole v) → ⊥
nor_both (Ok f) v is = cc
nor_both (Err fault) v is = cc

-- no number has a spelling of its own
no_spelling_whole : (kind : Kind) (v : Fraction) (bytes : List ℕ) → spelling_of kind ≡ Some bytes → Some kind ≡ Some (k.Whole v) → ⊥
unfolding spelling_of
no_spelling_whole kind v bytes spelling is =
    let same : kind ≡ k.Whole v = cc in
    let clash : None ≡ Some bytes = subst (λ x. spelling_of x ≡ Some bytes) same spelling in cc

no_spelling_real : (kind : Kind) (v : Fraction) (bytes : List ℕ) → spelling_of kind ≡ Some bytes → Some kind ≡ Some (k.Real v) → ⊥
unfolding spelling_of
no_spelling_real kind v bytes spelling is =
    let same : kind ≡ k.Real v = cc in
    let clash : None ≡ Some bytes = subst (λ x. spelling_of x ≡ Some bytes) same spelling in cc

-- digits that have a value
record IsReadWhole (v : Fraction) : Type 0 where
  n : ℕ
  value : decimal_of false n (pos 0) ≡ Ok v

-- digits and a power of ten that have a value
record IsRead (v : Fraction) : Type 0 where
  n : ℕ
  power : ℤ
  value : decimal_of false n power ≡ Ok v

read_whole : (bytes : List ℕ) (kind : Option Kind) (v : Fraction) → IsToken bytes kind → kind ≡ Some (k.Whole v) → IsReadWhole v
read_whole _ _ v (token.fixed bytes kind spelling) is = absurd (no_spelling_whole kind v bytes spelling is)
read_whole _ _ v (token.name bytes word free) is = absurd (cc)
read_whole _ _ v (token.quoted bytes word) is = absurd (cc)
read_whole _ _ v (token.whole digits numeral) is =
    record { n = digits_value 10 digits; value = whole_value _ v is }
read_whole _ _ v (token.real bytes digits power spelling partial) is = absurd (nor_both _ v is)

read_real : (bytes : List ℕ) (kind : Option Kind) (v : Fraction) → IsToken bytes kind → kind ≡ Some (k.Real v) → IsRead v
read_real _ _ v (token.fixed bytes kind spelling) is = absurd (no_spelling_real kind v bytes spelling is)
read_real _ _ v (token.name bytes word free) is = absurd (cc)
read_real _ _ v (token.quoted bytes word) is = absurd (cc)
read_real _ _ v (token.whole digits numeral) is = absurd (not_both _ v is)
read_real _ _ v (token.real bytes digits power spelling partial) is =
    record { n = digits_value 10 digits; power = power; value = real_value _ v is }

-- ---- what is read

-- what is read is not too wide
narrow : (m : ℕ) (e : ℤ) (v : Fraction) → limited_of false m e ≡ Ok v → is_wide m e ≡ false
narrow m e v is = by_cases (is_wide m e) refl
  where
    by_cases : (wide : Bool) → is_wide m e ≡ wide → is_wide m e ≡ false
    by_cases true wide = let clash : Err OutOfLimit ≡ Ok v = sym ((limited_wide false m e).1 wide) ∙ is in absurd (cc)
    by_cases false fits = fits

readable_value : (r : Result Fraction NumFault) (v : Fraction) → readable r ≡ Ok v → r ≡ Ok v
readable_value (Ok f) v is = cc
readable_value (Err fault) v is = absurd (cc)

-- it is what its digits and its power make
scaled : (m : ℕ) (e : ℤ) (v : Fraction) → limited_of false m e ≡ Ok v → scaled_of false m e ≡ Ok v
unfolding limited_of
scaled m e v is = readable_value (scaled_of false m e) v (sym (cond-false _ _ _ (narrow m e v is)) ∙ is)

-- digits with a power that is not below 0 make a whole number
record IsWholeNumber (v : Fraction) (size : ℕ) : Type 0 where
  small : size < limit
  same : v ≡ record { num = pos size; den = 1 }

whole_number : (m e : ℕ) (v : Fraction) → limited_of false m (pos e) ≡ Ok v → IsWholeNumber v (m * 10 ^ e)
whole_number m e v is =
    let below = or_parts (nat_le limit m) _ (narrow m (pos e) v is) in
    let fits : nat_le limit (m * 10 ^ e) ≡ false =
    ap (λ some. some && nat_le limit (m * 10 ^ e)) (sym (le-leb 0 e (omega arith))) ∙ (or_parts (int_lt (pos e) (negsuc 17)) _ below.1).1 in
    let small : m * 10 ^ e < limit = leb-false limit (m * 10 ^ e) fits in
    let found = lowest-IsFrac (pos (m * 10 ^ e)) 1 v (omega arith) (scaled m (pos e) v is) in
    record {
      small = small;
      same = same_fraction v (record { num = pos (m * 10 ^ e); den = 1 }) found.0
          (IsFrac-signed false (m * 10 ^ e) 1 (coprime_one (m * 10 ^ e)) small (omega arith) (omega arith)) found.1;
    }

-- digits with a power below 0 make that part of a power of ten
record IsPart (v : Fraction) (m e : ℕ) : Type 0 where
  few : e < 18
  small : m < limit
  is_frac : IsFrac v
  value : unsigned_abs v.num * 10 ^ suc e ≡ m * v.den

part_number : (m e : ℕ) (v : Fraction) → limited_of false m (negsuc e) ≡ Ok v → IsPart v m e
part_number m e v is =
    let parts = or_parts (nat_le limit m) _ (narrow m (negsuc e) v is) in
    let found = lowest-IsFrac (pos m) (10 ^ suc e) v (one-le-pow (suc e) 10 (omega arith)) (scaled m (negsuc e) v is) in
    record {
      few = omega (arith, ints, (or_parts (int_lt (negsuc e) (negsuc 17)) _ parts.1).0);
      small = leb-false limit m parts.0;
      is_frac = found.0;
      value = sym (unsigned_abs-mul v.num (pos (10 ^ suc e))) ∙ ap unsigned_abs found.1;
    }

-- ---- zeros at the end

-- what passes up to a bound is at most the greatest that does
greatest_above : (test : ℕ → Bool) (n d : ℕ) → d ≤ n → test d ≡ true → d ≤ greatest test n
unfolding greatest
greatest_above test zero d within passes = within
greatest_above test (suc n) d within passes =
    cond_both (test (suc n)) (suc n) (greatest test n) (λ k. d ≤ k) (λ here. within)
    (λ fails. elim (eq-or-lt_of_le within) [
      | inl same ↦ absurd (false≢true (sym fails ∙ subst (λ x. test x ≡ true) same passes))
      | inr less ↦ greatest_above test n d (omega arith) passes
    ])

-- a number above 0 as what is left of it without the zeros at its end
record IsTaken (n : ℕ) : Type 0 where
  left : ℕ
  zeros : ℕ
  value : n ≡ left * 10 ^ zeros
  proper : left % 10 ≢ 0
  some : 0 < left
  reads : (p : ℤ) → decimal_of false n p ≡ limited_of false left (p +ℤ pos zeros)

below_power : (k : ℕ) → k < 10 ^ k
below_power zero = rw (pow-zero 10) (omega arith)
below_power (suc k) = rw (pow-suc 10 k) (omega (arith, below_power k))

taken : (n : ℕ) → 0 < n → IsTaken n
unfolding zeros_of decimal_of
taken n some =
    let passes : divides (10 ^ zeros_of n) n ≡ true =
    greatest_passes (λ k. divides (10 ^ k) n) n (divides-true (10 ^ 0) n (one-dvd n)) in
    let whole : (n / 10 ^ zeros_of n) * 10 ^ zeros_of n ≡ n = div-mul_cancel (10 ^ zeros_of n) (true-divides (10 ^ zeros_of n) n passes) in
    record {
      left = n / 10 ^ zeros_of n;
      zeros = zeros_of n;
      value = sym whole;
      proper = no_more (n / 10 ^ zeros_of n) (zeros_of n) (sym whole) refl;
      some = left_some (n / 10 ^ zeros_of n) whole;
      reads = λ p. cond-false _ _ _ (ne_eqb n 0 (λ e. omega (arith, e)));
    }
  where
    left_some : (m : ℕ) → m * 10 ^ zeros_of n ≡ n → 0 < m
    left_some zero whole = absurd (omega (arith, whole))
    left_some (suc m) whole = omega arith

    no_more : (m z : ℕ) → n ≡ m * 10 ^ z → z ≡ greatest (λ k. divides (10 ^ k) n) n → m % 10 ≢ 0
    no_more m z value is last =
        let ten : 10 ∣ m = dvd_of_mod-eq-zero 10 last in
        let regrouped : n ≡ (m / 10) * 10 ^ suc z =
        value ∙ ap (λ x. x * 10 ^ z) (sym (div-mul_cancel 10 ten)) ∙ mul_assoc (m / 10) 10 (10 ^ z)
        ∙ ap (λ x. (m / 10) * x) (mul_comm 10 (10 ^ z) ∙ sym (pow-suc 10 z)) in
        let more : 10 ^ suc z ∣ n = subst (λ x. 10 ^ suc z ∣ x) (sym regrouped) (dvd-mul_left (10 ^ suc z) (m / 10)) in
        let within : suc z ≤ n = omega (arith, below_power (suc z), le_of_dvd some more) in
        omega (arith, is, greatest_above (λ k. divides (10 ^ k) n) n (suc z) within (divides-true (10 ^ suc z) n more))

-- ---- a whole number

-- a power after none
after_none : (k : ℕ) → pos 0 +ℤ pos k ≡ pos k
after_none k = same_in (pos 0 +ℤ pos k) (pos k) (omega (arith, ints))

-- nothing, as a fraction
abbrev nought : Fraction
nought = record { num = pos 0; den = 1 }

-- two values that are read are the same
one_value : (r : Result Fraction ReadNum) (f g : Fraction) → r ≡ Ok f → r ≡ Ok g → f ≡ g
one_value r f g first second = cc

-- it is the number of its digits
whole_is : (v : Fraction) (read : IsReadWhole v) → (unsigned_abs v.num ≡ read.n) × (read.n < limit)
whole_is v read = elim (eq-zero-or-pos read.n) [
  | inl nothing ↦
      let same : nought ≡ v = one_value (decimal_of false read.n (pos 0)) nought v (decimal-zero false read.n (pos 0) nothing) read.value in
      (ap (λ f. unsigned_abs f.num) (sym same) ∙ sym nothing, omega (arith, nothing))
  | inr some ↦
      let parts = taken read.n some in
      let whole = whole_number parts.left parts.zeros v
      (ap (limited_of false parts.left) (sym (after_none parts.zeros)) ∙ sym (parts.reads (pos 0)) ∙ read.value) in
      (ap (λ f. unsigned_abs f.num) whole.same ∙ sym parts.value, omega (arith, whole.small, parts.value))
]

-- its digits are a token of it
pub whole_token : (v : Fraction) → IsFormedKind (k.Whole v) → IsToken (spelled (k.Whole v)) (Some (k.Whole v))
whole_token v formed =
    let read = read_whole formed.0 (Some (k.Whole v)) v formed.1 refl in
    let is = whole_is v read in
    let digits = decimal_is_IsNumeral (unsigned_abs v.num) (omega (arith, is.0, is.1)) in
    let value : value_of false (written_decimal (decimal (unsigned_abs v.num)) (pos 0)) ≡ Ok v =
    ap (λ n. decimal_of false n (pos 0)) (digits.1 ∙ is.0) ∙ read.value in
    subst (λ kind. IsToken (decimal (unsigned_abs v.num)) kind) (ap (number_kind k.Whole) value)
    (token.whole (decimal (unsigned_abs v.num)) digits.0)

-- ---- how many decimals are exact

-- the greatest number that passes, where there is one, passes
greatest_found : (test : ℕ → Bool) (n : ℕ) → 0 < greatest test n → test (greatest test n) ≡ true
unfolding greatest
greatest_found test zero some = absurd (omega (arith, some))
greatest_found test (suc n) some =
    cond_both (test (suc n)) (suc n) (greatest test n) (λ k. 0 < k → test k ≡ true) (λ here _. here)
    (λ fails. greatest_found test n) some

-- the decimals are no more than an exact number of them
decimals_few : (f : Fraction) (j : ℕ) → 0 < j → j < 19 → divides f.den (10 ^ j) ≡ true → decimals_of f ≤ j
decimals_few f j some within exact = elim (cases_lt j (decimals_of f)) [
  | inl more ↦
      let test : ℕ → Bool = λ k. not (divides f.den (10 ^ k)) in
      let inexact = greatest_found test 18 (omega (arith, more, some)) in
      absurd (not_not (divides f.den (10 ^ greatest test 18)) inexact
      (divides_more f.den j (greatest test 18) (omega (arith, more)) exact))
  | inr few ↦ few
]

-- and they are exact, where some number of them is
decimals_exact : (f : Fraction) (j : ℕ) → 0 < j → j < 19 → divides f.den (10 ^ j) ≡ true
    → divides f.den (10 ^ decimals_of f) ≡ true
decimals_exact f j some within exact = by_cases (divides f.den (10 ^ decimals_of f)) refl
  where
    by_cases : (b : Bool) → divides f.den (10 ^ decimals_of f) ≡ b → divides f.den (10 ^ decimals_of f) ≡ true
    by_cases true is = is
    by_cases false is =
        let test : ℕ → Bool = λ k. not (divides f.den (10 ^ k)) in
        let above = greatest_above test 18 (decimals_of f) (omega (arith, decimals_few f j some within exact)) (ap not is) in
        absurd (omega (arith, above))

-- ---- the printed digits

-- a digit's value
digit_of : (r : ℕ) → r < 10 → digit_value (48 + r) ≡ r
digit_of r small = omega (arith, digit_value_digit (48 + r) (omega arith, omega arith))

-- digits after the point are digits
digits_are : (f : Fraction) (places : List ℕ) → AllDigits 10 (map (digit_after_point f) places)
digits_are f [] = tt
digits_are f (place ∷ places) =
    let rest = unsigned_abs f.num * 10 ^ suc place / f.den in
    (omega (arith, digit_of (rest % 10) (mod-lt rest (omega arith)), mod-lt rest {m = 10} (omega arith)), digits_are f places)

-- one digit more
next_digit : (s den d : ℕ) → (s * 10 ^ d / den) * 10 + (s * 10 ^ suc d / den) % 10 ≡ s * 10 ^ suc d / den
next_digit s den d =
    let shorter : s * 10 ^ suc d / den / 10 ≡ s * 10 ^ d / den =
    div-div-eq-div-mul (s * 10 ^ suc d) den 10
    ∙ ap (λ x. x / (den * 10)) (ap (λ p. s * p) (pow-suc 10 d) ∙ sym (mul_assoc s (10 ^ d) 10))
    ∙ mul-div-mul_right {m = 10} (s * 10 ^ d) den (omega arith) in
    ap (λ q. q * 10 + (s * 10 ^ suc d / den) % 10) (sym shorter) ∙ div-add-mod' (s * 10 ^ suc d / den) 10

-- the digits before the point and some after it are the number times a power of ten, rounded down
printed_value : (f : Fraction) (d : ℕ)
    → digits_value_after 10 (unsigned_abs f.num / f.den) (map (digit_after_point f) (range_with_len 0 d))
    ≡ unsigned_abs f.num * 10 ^ d / f.den
printed_value f zero =
    ap (λ s. s / f.den) (sym (ap (λ p. unsigned_abs f.num * p) (pow-zero 10) ∙ mul-one (unsigned_abs f.num)))
printed_value f (suc d) =
    let size = unsigned_abs f.num in
    let whole = size / f.den in
    let digit = size * 10 ^ suc d / f.den % 10 in
    let one_more : suc d ≡ d + 1 = omega arith in
    ap (digits_value_after 10 whole) (ap (λ n. map (digit_after_point f) (range_with_len 0 n)) one_more
    ∙ map-range_with_len_more (digit_after_point f) 0 d d (omega arith))
    ∙ value_append whole (map (digit_after_point f) (range_with_len 0 d)) (digit_after_point f d ∷ [])
    ∙ ap₂ (λ v r. v * 10 + r) (printed_value f d) (digit_of digit (mod-lt (size * 10 ^ suc d / f.den) (omega arith)))
    ∙ next_digit size f.den d

-- ---- a number with a point

-- what the printed digits are read as
record IsReadBack (v : Fraction) : Type 0 where
  small : unsigned_abs v.num < limit
  value : decimal_of false (unsigned_abs v.num * 10 ^ decimals_of v / v.den) (pos 0 -ℤ pos (decimals_of v)) ≡ Ok v

-- nothing
back_zero : IsReadBack nought
back_zero =
    record {
      small = omega arith;
      value = decimal-zero false (0 * 10 ^ decimals_of nought / 1) (pos 0 -ℤ pos (decimals_of nought))
          (div-one _ ∙ zero-mul (10 ^ decimals_of nought));
    }

-- a whole number has one decimal
whole_decimals : (n : ℕ) → decimals_of (record { num = pos n; den = 1 }) ≡ 1
whole_decimals n =
    let f : Fraction = record { num = pos n; den = 1 } in
    let few = decimals_few f 1 (omega arith) (omega arith) (divides-true 1 (10 ^ 1) (one-dvd (10 ^ 1))) in
    omega (arith, few)

-- powers of ten that are one
less_by_one : (k : ℕ) → (pos 0 -ℤ pos 1) +ℤ pos (suc k) ≡ pos k
less_by_one k = same_in ((pos 0 -ℤ pos 1) +ℤ pos (suc k)) (pos k) (omega (arith, ints))

less_by_all : (k : ℕ) → (pos 0 -ℤ pos (suc k)) +ℤ pos 0 ≡ negsuc k
less_by_all k = same_in ((pos 0 -ℤ pos (suc k)) +ℤ pos 0) (negsuc k) (omega (arith, ints))

-- digits with zeros behind them
back_whole : (m k : ℕ) → m % 10 ≢ 0 → 0 < m → m * 10 ^ k < limit
    → limited_of false m (pos k) ≡ Ok (record { num = pos (m * 10 ^ k); den = 1 })
    → IsReadBack (record { num = pos (m * 10 ^ k); den = 1 })
back_whole m k proper some small is =
    let s = m * 10 ^ k in
    let f : Fraction = record { num = pos s; den = 1 } in
    let one = whole_decimals s in
    let one_more : k + 1 ≡ suc k = omega arith in
    let printed : s * 10 ^ 1 / 1 ≡ m * 10 ^ suc k =
    div-one (s * 10 ^ 1) ∙ mul_assoc m (10 ^ k) (10 ^ 1) ∙ ap (λ x. m * x) (sym (pow-add 10 k 1)) ∙ ap (λ j. m * 10 ^ j) one_more in
    let significant : IsSignificant (s * 10 ^ 1 / 1) m (suc k) =
    record { value = printed; small = omega (arith, small, mul-le-mul_left m (one-le-pow k 10 (omega arith)), mul-one m); proper = inl proper } in
    record {
      small = small;
      value = subst (λ d. decimal_of false (s * 10 ^ d / 1) (pos 0 -ℤ pos d) ≡ Ok f) (sym one)
          (decimal-significant false (s * 10 ^ 1 / 1) m (suc k) (pos 0 -ℤ pos 1) significant some
          ∙ ap (limited_of false m) (less_by_one k) ∙ is);
    }

-- digits with a point before some of them are printed just so
record IsSame (v : Fraction) (m k : ℕ) : Type 0 where
  places : decimals_of v ≡ suc k
  digits : unsigned_abs v.num * 10 ^ decimals_of v / v.den ≡ m

-- a number that ends with no zero is no multiple of ten
no_zeros : (m x j : ℕ) → m % 10 ≢ 0 → m ≡ x * 10 ^ j → j ≡ 0
no_zeros m x zero proper value = refl
no_zeros m x (suc j) proper value =
    absurd (proper (ap (λ y. y % 10) (value ∙ ap (λ p. x * p) (pow-suc 10 j) ∙ sym (mul_assoc x (10 ^ j) 10))
    ∙ mul-mod_left (x * 10 ^ j) 10))

same_part : (v : Fraction) (m k : ℕ) → m % 10 ≢ 0 → IsPart v m k → IsSame v m k
same_part v m k proper part =
    let size = unsigned_abs v.num in
    let d = decimals_of v in
    let coprime = coprime-swap size v.den part.is_frac.coprime in
    let whole : v.den ∣ 10 ^ suc k =
    dvd_of_coprime v.den size (10 ^ suc k) coprime (subst (λ x. v.den ∣ x) (sym part.value) (dvd-mul_left v.den m)) in
    let exact = divides-true v.den (10 ^ suc k) whole in
    let within : suc k < 19 = omega (arith, part.few) in
    let few : d ≤ suc k = decimals_few v (suc k) (omega arith) within exact in
    let ours : v.den ∣ size * 10 ^ d =
    dvd_trans v.den (true-divides v.den (10 ^ d) (decimals_exact v (suc k) (omega arith) within exact)) (dvd-mul_left (10 ^ d) size) in
    let printed : (size * 10 ^ d / v.den) * v.den ≡ size * 10 ^ d = div-mul_cancel v.den ours in
    let apart : suc k ≡ d + (suc k - d) = omega (arith, few) in
    let scaled_up : m * v.den ≡ ((size * 10 ^ d / v.den) * 10 ^ (suc k - d)) * v.den =
    sym part.value ∙ ap (λ j. size * 10 ^ j) apart ∙ ap (λ p. size * p) (pow-add 10 d (suc k - d))
    ∙ sym (mul_assoc size (10 ^ d) (10 ^ (suc k - d))) ∙ ap (λ x. x * 10 ^ (suc k - d)) (sym printed)
    ∙ mul_right_comm (size * 10 ^ d / v.den) v.den (10 ^ (suc k - d)) in
    let value : m ≡ (size * 10 ^ d / v.den) * 10 ^ (suc k - d) =
    eq_of_mul-eq-mul_right v.den part.is_frac.den_some m _ scaled_up in
    let none_more = no_zeros m (size * 10 ^ d / v.den) (suc k - d) proper value in
    record {
      places = omega (arith, none_more, few);
      digits = sym (value ∙ ap (λ j. (size * 10 ^ d / v.den) * 10 ^ j) none_more ∙ ap (λ p. (size * 10 ^ d / v.den) * p) (pow-zero 10) ∙ mul-one (size * 10 ^ d / v.den));
    }

back_part : (v : Fraction) (m k : ℕ) → m % 10 ≢ 0 → 0 < m → limited_of false m (negsuc k) ≡ Ok v → IsReadBack v
back_part v m k proper some is =
    let part = part_number m k v is in
    let same = same_part v m k proper part in
    let significant : IsSignificant m m 0 =
    record { value = sym (ap (λ p. m * p) (pow-zero 10) ∙ mul-one m); small = part.small; proper = inl proper } in
    record {
      small = part.is_frac.num_small;
      value = ap₂ (λ x d. decimal_of false x (pos 0 -ℤ pos d)) same.digits same.places
          ∙ decimal-significant false m m 0 (pos 0 -ℤ pos (suc k)) significant some
          ∙ ap (limited_of false m) (less_by_all k) ∙ is;
    }

-- what was read is printed so that it is read again
read_back : (v : Fraction) → IsRead v → IsReadBack v
read_back v read = elim (eq-zero-or-pos read.n) [
  | inl nothing ↦ subst IsReadBack (one_value (decimal_of false read.n read.power) nought v (decimal-zero false read.n read.power nothing) read.value) back_zero
  | inr some ↦
      let parts = taken read.n some in
      by_power parts.left parts.proper parts.some (read.power +ℤ pos parts.zeros) (sym (parts.reads read.power) ∙ read.value)
]
  where
    by_power : (m : ℕ) → m % 10 ≢ 0 → 0 < m → (e : ℤ) → limited_of false m e ≡ Ok v → IsReadBack v
    by_power m proper some (pos k) is =
        let whole = whole_number m k v is in
        subst IsReadBack (sym whole.same)
        (back_whole m k proper some whole.small (subst (λ f. limited_of false m (pos k) ≡ Ok f) whole.same is))
    by_power m proper some (negsuc k) is = back_part v m k proper some is

-- digits with a point among them are no numeral
no_point : (front part : List ℕ) → AllDigits 10 (front ++ (46 ∷ part)) → ⊥
no_point [] part all = omega (arith, all.0)
no_point (c ∷ cs) part all = no_point cs part all.1

-- its digits with a point are a token of it
pub real_token : (v : Fraction) → IsFormedKind (k.Real v) → IsToken (spelled (k.Real v)) (Some (k.Real v))
real_token v formed =
    let back = read_back v (read_real formed.0 (Some (k.Real v)) v formed.1 refl) in
    let whole = unsigned_abs v.num / v.den in
    let front = decimal whole in
    let part = map (digit_after_point v) (range_with_len 0 (decimals_of v)) in
    let long : length part ≡ decimals_of v = length-map-range_with_len (digit_after_point v) 0 (decimals_of v) in
    let digits = decimal_is_IsNumeral whole (omega (arith, back.small, div-le_self (unsigned_abs v.num) v.den)) in
    let after : IsNumeral 10 part = (omega (arith, long), digits_are v (range_with_len 0 (decimals_of v))) in
    let spelling = subst (λ p. IsSpelled (front ++ (46 ∷ p)) (written_decimal (front ++ part) (pos 0 -ℤ pos (length part)))) (append-nil part)
    (point front part [] (pos 0) digits.0.1 after none) in
    let number : digits_value 10 (front ++ part) ≡ unsigned_abs v.num * 10 ^ decimals_of v / v.den =
    value_append 0 front part ∙ ap (λ n. digits_value_after 10 n part) digits.1 ∙ printed_value v (decimals_of v) in
    let value : value_of false (written_decimal (front ++ part) (pos 0 -ℤ pos (length part))) ≡ Ok v =
    ap₂ (λ n d. decimal_of false n (pos 0 -ℤ pos d)) number long ∙ back.value in
    subst (λ kind. IsToken (front ++ (46 ∷ part)) kind) (ap (number_kind k.Real) value)
    (token.real (front ++ (46 ∷ part)) (front ++ part) (pos 0 -ℤ pos (length part)) spelling (λ numeral. no_point front part numeral.1))
