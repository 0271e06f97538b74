-- Digits, the zeros at the end of a number, and numbers that are too long.
use Rattle.std.proofs.Common.{◌≡◌, ◌≢◌, ℕ, zero, suc, ◌+◌, ◌-◌, ◌*◌, ◌/◌, ◌%◌, ◌^◌, ◌<◌, ◌≤◌, min, Bool, true, false, cond, List, [], ◌∷◌, ◌++◌, length, get_or, take, drop, refl, sym, ◌∙◌, ap, ap₂, subst, arith, ◌⊎◌, inl, inr, ⊎_elim, eq-eqb, le-ltb, lt-ltb, pow-suc, pow-add, mul_assoc, mul_comm, mul-one, mul-pos, pos_of_ne-zero, eq-zero-or-pos, add-zero, add-one, one-mul, le_trans, le-leb, ne_eqb, ℤ, pos, negsuc, neg_ℤ, ◌+ℤ◌, ◌-ℤ◌, int_lt, unsigned_abs, nat_le, nat_lt, ◌&&◌, Ok, Err, take-append-drop}
use Rattle.std.specs.Int.{◌∣◌}
use Rattle.std.specs.Char.{digit_value}
use Rattle.std.specs.Str.Parse.{AllDigits, digits_value, digits_value_after}
use Rattle.std.proofs.lemmas.Bool.{cond-true, cond-false, cases_lt, or_left, or_right, or_from, and_from, and_left, and_right, lt-leb}
use Rattle.std.proofs.lemmas.Int.{ints}
use Rattle.std.proofs.lemmas.Nat.Gcd.{dvd_trans, mod-eq-zero_of_dvd}
use native.Mathlib.Nat.{one-dvd, div-mul_cancel, min-eq_left, pow-zero, zero-mul, dvd-mul_left, dvd-mul_right, mul-div_cancel, pow-le-pow_right, one-le-pow, dvd_of_mul-dvd-mul_right, mul-le-mul_right}
use Rattle.smc_num.specs.Gcd.{greatest, divides}
use Rattle.smc_num.specs.declared.fault.ReadNum.TheVariants.{OutOfLimit, NotANumber}
use Rattle.smc_num.specs.Fraction.{limit, signed, lowest}
use Rattle.smc_num.specs.Spelling.{zeros_of, limited_of, decimal_of, ratio_of, readable, scaled_of, is_wide}
use Rattle.smc_num.specs.Taken.{clamped}
use Rattle.smc_num.specs.Digits.{IsSignificant, IsLong}
use Rattle.smc_num.proofs.GcdLemmas.{greatest_is, greatest_none, greatest_passes, divides-true, true-divides}

-- ---- digits in order

pub digit_at : (ds : List ℕ) (i : ℕ) → AllDigits 10 ds → i < length ds → digit_value (get_or ds i 0) < 10
digit_at [] i all h = absurd (omega arith)
digit_at (d ∷ ds) zero all h = all.0
digit_at (d ∷ ds) (suc i) all h = digit_at ds i all.1 (omega arith)

pub value_append : (n : ℕ) (xs ys : List ℕ) → digits_value_after 10 n (xs ++ ys) ≡ digits_value_after 10 (digits_value_after 10 n xs) ys
value_append n [] ys = refl
value_append n (x ∷ xs) ys = value_append (n * 10 + digit_value x) xs ys

pub value_more : (n : ℕ) (ds : List ℕ) (i : ℕ) → i < length ds → digits_value_after 10 n (take (i + 1) ds) ≡ digits_value_after 10 n (take i ds) * 10 + digit_value (get_or ds i 0)
value_more n [] i h = absurd (omega arith)
value_more n (d ∷ ds) zero h = refl
value_more n (d ∷ ds) (suc i) h =
    let next : suc (i + 1) ≡ suc i + 1 = omega arith in
    subst (λ k. digits_value_after 10 n (take k (d ∷ ds)) ≡ digits_value_after 10 n (take (suc i) (d ∷ ds)) * 10 + digit_value (get_or (d ∷ ds) (suc i) 0)) next
    (value_more (n * 10 + digit_value d) ds i (omega arith))

-- ---- zeros at the end

-- 10 divides a number that has a zero at its end
ten_divides : (m zeros : ℕ) → 10 ∣ m * 10 ^ suc zeros
ten_divides m zeros = subst (λ z. 10 ∣ m * z) (sym (pow-suc 10 zeros)) (subst (λ z. 10 ∣ z) (mul_assoc m (10 ^ zeros) 10) (dvd-mul_left 10 (m * 10 ^ zeros)))

-- a number whose last digit is not 0 has no zero at its end
no_zeros : (n m zeros : ℕ) → n % 10 ≢ 0 → n ≡ m * 10 ^ zeros → (zeros ≡ 0) × (m ≡ n)
no_zeros n m zero last is = (refl, sym (is ∙ ap (λ z. m * z) (pow-zero 10) ∙ mul-one m))
no_zeros n m (suc zeros) last is = absurd (last (mod-eq-zero_of_dvd 10 (subst (λ z. 10 ∣ z) (sym is) (ten_divides m zeros))))

pub long_from : (n : ℕ) → n % 10 ≢ 0 → limit ≤ n → IsLong n
long_from n last large = λ m zeros is. subst (λ z. limit ≤ z) (sym (no_zeros n m zeros last is).1) large

pub last_digit : (n d : ℕ) → d < 10 → 0 < d → (n * 10 + d) % 10 ≢ 0
last_digit n d small some = λ e. omega (arith, e)

-- a number that is too long stays so with a digit more
pub long_more : (n d : ℕ) → d < 10 → IsLong n → IsLong (n * 10 + d)
long_more n zero small long = λ m zeros is. long_zero m zeros (sym (add-zero (n * 10)) ∙ is)
  where
    long_zero : (m zeros : ℕ) → n * 10 ≡ m * 10 ^ zeros → limit ≤ m
    long_zero m zero e = le_trans (long n 0 (sym (ap (λ z. n * z) (pow-zero 10) ∙ mul-one n))) (omega (arith, e ∙ ap (λ z. m * z) (pow-zero 10) ∙ mul-one m))
    long_zero m (suc zeros) e = long m zeros (omega (arith, e ∙ ap (λ z. m * z) (pow-suc 10 zeros) ∙ sym (mul_assoc m (10 ^ zeros) 10)))
long_more n (suc d) small long =
    long_from (n * 10 + suc d) (last_digit n (suc d) small (omega arith)) (le_trans (long n 0 (sym (ap (λ z. n * z) (pow-zero 10) ∙ mul-one n))) (omega arith))

pub long_rest : (n : ℕ) (ds : List ℕ) → AllDigits 10 ds → IsLong n → IsLong (digits_value_after 10 n ds)
long_rest n [] all long = long
long_rest n (d ∷ ds) all long = long_rest (n * 10 + digit_value d) ds all.1 (long_more n (digit_value d) all.0 long)

-- 0 is not too long
pub long_some : (n : ℕ) → IsLong n → 0 < n
long_some zero long = absurd (omega (arith, long 0 0 (sym (zero-mul (10 ^ 0)))))
long_some (suc n) long = omega arith

-- a power of ten is above its exponent
below_power : (k : ℕ) → k < 10 ^ k
below_power zero = rw (pow-zero 10) (omega arith)
below_power (suc k) = rw (pow-suc 10 k) (omega (arith, below_power k))

-- the zeros at the end of a number are those behind its last digit that is not 0
pub zeros_is : (n m zeros : ℕ) → IsSignificant n m zeros → 0 < m → zeros_of n ≡ zeros
unfolding zeros_of
zeros_is n m zeros is some = by_zeros zeros is
  where
    last_is : (z : ℕ) → IsSignificant n m z → m % 10 ≢ 0
    last_is z is = elim is.proper [ inl last ↦ last | inr none ↦ absurd (omega (arith, none.0)) ]

    none_greater : (z : ℕ) → IsSignificant n m z → (d : ℕ) → z < d → divides (10 ^ d) n ≡ true → ⊥
    none_greater z is d above passes =
        let apart : d ≡ suc z + (d - suc z) = omega arith in
        let parts : (10 * 10 ^ z) * 10 ^ (d - suc z) ≡ 10 ^ d =
        ap (λ x. x * 10 ^ (d - suc z)) (mul_comm 10 (10 ^ z) ∙ sym (pow-suc 10 z)) ∙ sym (pow-add 10 (suc z) (d - suc z)) ∙ ap (λ k. 10 ^ k) (sym apart) in
        let more : 10 * 10 ^ z ∣ 10 ^ d = subst (λ x. 10 * 10 ^ z ∣ x) parts (dvd-mul_right (10 * 10 ^ z) (10 ^ (d - suc z))) in
        let whole : 10 * 10 ^ z ∣ m * 10 ^ z = dvd_trans (10 * 10 ^ z) more (subst (λ x. 10 ^ d ∣ x) is.value (true-divides (10 ^ d) n passes)) in
        last_is z is (mod-eq-zero_of_dvd 10 (dvd_of_mul-dvd-mul_right 10 {n = m} (one-le-pow z 10 (omega arith)) whole))

    by_zeros : (z : ℕ) → IsSignificant n m z → greatest (λ k. divides (10 ^ k) n) n ≡ z
    by_zeros zero is = greatest_none (λ k. divides (10 ^ k) n) n (none_greater 0 is)
    by_zeros (suc z) is =
        greatest_is (λ k. divides (10 ^ k) n) n (suc z) (omega arith) (omega (arith, below_power (suc z), is.value, mul-le-mul_right (10 ^ suc z) some, one-mul (10 ^ suc z)))
        (divides-true (10 ^ suc z) n (subst (λ x. 10 ^ suc z ∣ x) (sym is.value) (dvd-mul_left (10 ^ suc z) m))) (none_greater (suc z) is)

-- the zeros at the end of a number can be taken off
zeros_divide : (n : ℕ) → 10 ^ zeros_of n ∣ n
unfolding zeros_of
zeros_divide n = true-divides (10 ^ greatest (λ k. divides (10 ^ k) n) n) n (greatest_passes (λ k. divides (10 ^ k) n) n (divides-true (10 ^ 0) n (one-dvd n)))

-- ---- values

pub limited-long : (negative : Bool) (m : ℕ) (e : ℤ) → limit ≤ m → limited_of negative m e ≡ Err OutOfLimit
unfolding limited_of
limited-long negative m e large = cond-true _ _ _ (or_left _ _ (le-leb limit m large))

pub limited-low : (negative : Bool) (m : ℕ) (e : ℤ) → int_lt e (negsuc 17) ≡ true → limited_of negative m e ≡ Err OutOfLimit
unfolding limited_of
limited-low negative m e low = cond-true _ _ _ (or_right _ _ (or_left _ _ low))

pub limited-large : (negative : Bool) (m : ℕ) (e : ℤ) → int_lt e (pos 0) ≡ false → limit ≤ m * 10 ^ unsigned_abs e → limited_of negative m e ≡ Err OutOfLimit
unfolding limited_of
limited-large negative m (pos k) up large =
    let wide : is_wide m (pos k) ≡ true = or_right (nat_le limit m) (nat_le 0 k && nat_le limit (m * 10 ^ k)) (and_from (nat_le 0 k) (nat_le limit (m * 10 ^ k)) (le-leb 0 k (omega arith)) (le-leb limit (m * 10 ^ k) large)) in
    cond-true (is_wide m (pos k)) (Err OutOfLimit) (readable (scaled_of negative m (pos k))) wide
limited-large negative m (negsuc k) up large = cc

pub limited-whole : (negative : Bool) (m : ℕ) (e : ℤ) → m < limit → int_lt e (pos 0) ≡ false → m * 10 ^ unsigned_abs e < limit → limited_of negative m e ≡ readable (lowest (signed negative (m * 10 ^ unsigned_abs e)) 1)
unfolding limited_of
limited-whole negative m (pos k) small up fits = cond-false _ _ _ (or_from _ _ (lt-leb limit m small) (and_right _ _ (lt-leb limit (m * 10 ^ k) fits)))
limited-whole negative m (negsuc k) small up fits = cc

pub limited-part : (negative : Bool) (m : ℕ) (e : ℤ) → m < limit → int_lt e (negsuc 17) ≡ false → int_lt e (pos 0) ≡ true → limited_of negative m e ≡ readable (lowest (signed negative m) (10 ^ unsigned_abs e))
unfolding limited_of
limited-part negative m (pos k) small low down = absurd (omega (arith, ints, down))
limited-part negative m (negsuc k) small low down = cond-false _ _ _ (or_from _ _ (lt-leb limit m small) (or_from _ _ low refl))

-- a number with more than 18 zeros behind it is too wide
wide_product : (m k : ℕ) → 0 < m → 19 ≤ k → limit ≤ m * 10 ^ k
wide_product m k some large =
    let power = pow-le-pow_right {n = 10} (omega arith) large in
    let product = mul-le-mul_right (10 ^ k) some in
    omega (arith, power, product, one-mul (10 ^ k))

pub limited-far : (negative : Bool) (m : ℕ) (e : ℤ) → 0 < m → 18 < unsigned_abs e → limited_of negative m e ≡ Err OutOfLimit
limited-far negative m (pos k) some far = limited-large negative m (pos k) (le-ltb k 0 (omega arith)) (wide_product m k some far)
limited-far negative m (negsuc k) some far = limited-low negative m (negsuc k) (lt-ltb 17 k (omega arith))

-- a power that was brought to a size of 2^100 gives the same
pub limited-clamped : (negative : Bool) (m : ℕ) (p : ℤ) (places zeros : ℕ) → 0 < m → places < 2 ^ 70 → zeros < 2 ^ 70 → limited_of negative m ((clamped p -ℤ pos places) +ℤ pos zeros) ≡ limited_of negative m ((p -ℤ pos places) +ℤ pos zeros)
limited-clamped negative m p places zeros some places_small zeros_small =
    ⊎_elim
    (λ (small : unsigned_abs p ≤ 2 ^ 100). ap (λ z. limited_of negative m ((z -ℤ pos places) +ℤ pos zeros)) (clamped-small p small))
    (λ (large : 2 ^ 100 < unsigned_abs p).
    let far = far_apart p places zeros large places_small zeros_small in
    limited-far negative m _ some far.0 ∙ sym (limited-far negative m _ some far.1))
    (cases_lt_le (unsigned_abs p) (2 ^ 100))
  where
    clamped-small : (p : ℤ) → unsigned_abs p ≤ 2 ^ 100 → clamped p ≡ p
    clamped-small (pos n) h = ap pos (min-eq_left h)
    clamped-small (negsuc n) h = ap (λ z. neg_ℤ (pos z)) (min-eq_left h)

    far_apart : (p : ℤ) (places zeros : ℕ) → 2 ^ 100 < unsigned_abs p → places < 2 ^ 70 → zeros < 2 ^ 70 → (18 < unsigned_abs ((clamped p -ℤ pos places) +ℤ pos zeros)) × (18 < unsigned_abs ((p -ℤ pos places) +ℤ pos zeros))
    far_apart (pos n) places zeros large places_small zeros_small = (omega (arith, ints), omega (arith, ints))
    far_apart (negsuc n) places zeros large places_small zeros_small = (omega (arith, ints), omega (arith, ints))

    cases_lt_le : (a b : ℕ) → (a ≤ b) ⊎ (b < a)
    cases_lt_le a b = ⊎_elim inr inl (cases_lt b a)

pub decimal-zero : (negative : Bool) (n : ℕ) (p : ℤ) → n ≡ 0 → decimal_of negative n p ≡ Ok (record { num = pos 0; den = 1 })
unfolding decimal_of
decimal-zero negative n p none = cond-true _ _ _ (eq-eqb n 0 none)

-- a number by its digits without the zeros at the end
pub decimal-significant : (negative : Bool) (n m zeros : ℕ) (p : ℤ) → IsSignificant n m zeros → 0 < m → decimal_of negative n p ≡ limited_of negative m (p +ℤ pos zeros)
unfolding decimal_of
decimal-significant negative n m zeros p is some =
    let power_some : 0 < 10 ^ zeros = one-le-pow zeros 10 (omega arith) in
    let n_some : 0 < n = subst (λ z. 0 < z) (sym is.value) (mul-pos some power_some) in
    let same = zeros_is n m zeros is some in
    let digits : n / 10 ^ zeros_of n ≡ m = ap (λ z. n / 10 ^ z) same ∙ ap (λ z. z / 10 ^ zeros) is.value ∙ mul-div_cancel m power_some in
    cond-false _ _ _ (ne_eqb n 0 (λ e. omega (arith, e))) ∙ ap₂ (λ x y. limited_of negative x (p +ℤ pos y)) digits same

-- a number that is too long is too wide
pub decimal-long : (negative : Bool) (n : ℕ) (p : ℤ) → IsLong n → decimal_of negative n p ≡ Err OutOfLimit
unfolding decimal_of
decimal-long negative n p long =
    let n_some = long_some n long in
    cond-false _ _ _ (ne_eqb n 0 (λ e. omega (arith, e)))
    ∙ limited-long negative (n / 10 ^ zeros_of n) (p +ℤ pos (zeros_of n)) (long (n / 10 ^ zeros_of n) (zeros_of n) (sym (div-mul_cancel (10 ^ zeros_of n) (zeros_divide n))))

-- ---- digits one by one

-- a zero behind a number is one more at its end
pub significant-zero : (n m zeros : ℕ) → IsSignificant n m zeros → 0 < m → IsSignificant (n * 10 + 0) m (zeros + 1)
significant-zero n m zeros is some =
    record {
      value = add-zero (n * 10) ∙ ap (λ z. z * 10) is.value ∙ mul_assoc m (10 ^ zeros) 10 ∙ ap (λ z. m * z) (sym (pow-suc 10 zeros)) ∙ ap (λ k. m * 10 ^ k) (sym (add-one zeros));
      small = is.small;
      proper = elim is.proper [ inl last ↦ inl last | inr none ↦ absurd (omega (arith, none.0)) ];
    }

-- another digit behind a number ends it
pub significant-digit : (n d : ℕ) → d < 10 → 0 < d → n * 10 + d < limit → IsSignificant (n * 10 + d) (n * 10 + d) 0
significant-digit n d small some fits =
    record {
      value = sym (ap (λ z. (n * 10 + d) * z) (pow-zero 10) ∙ mul-one (n * 10 + d));
      small = fits;
      proper = inl (last_digit n d small some);
    }

-- a number of digits that is held to 2^100 on the way is held so in the end
pub held : (v size d : ℕ) → size ≡ min v (2 ^ 100) → min (size * 10 + d) (2 ^ 100) ≡ min (v * 10 + d) (2 ^ 100)
held v size d is = omega arith

-- a digit that is not 0, behind so many zeros, makes a number too long
pub long_digit : (n m zeros d : ℕ) → d < 10 → 0 < d → IsSignificant n m zeros → 18 ≤ zeros → IsLong (n * 10 + d)
long_digit n m zeros d small some is many =
    let m_some : 0 < m = elim is.proper [ inl last ↦ pos_of_ne-zero (λ e. last (ap (λ z. z % 10) e)) | inr none ↦ absurd (omega (arith, none.1)) ] in
    let wide = wide_product m (zeros + 1) m_some (omega arith) in
    let value : m * 10 ^ (zeros + 1) ≡ n * 10 = ap (λ k. m * 10 ^ k) (add-one zeros) ∙ ap (λ z. m * z) (pow-suc 10 zeros) ∙ sym (mul_assoc m (10 ^ zeros) 10) ∙ ap (λ z. z * 10) (sym is.value) in
    long_from (n * 10 + d) (last_digit n d small some) (omega (arith, wide, value))

-- the digits times a power of ten, and the digit behind them
pub shifted : (n m zeros : ℕ) → IsSignificant n m zeros → m * 10 ^ (zeros + 1) ≡ n * 10
shifted n m zeros is = ap (λ k. m * 10 ^ k) (add-one zeros) ∙ ap (λ z. m * z) (pow-suc 10 zeros) ∙ sym (mul_assoc m (10 ^ zeros) 10) ∙ ap (λ z. z * 10) (sym is.value)

-- no digits are 0
pub significant-start : IsSignificant 0 0 0
significant-start = record { value = sym (zero-mul (10 ^ 0)); small = omega arith; proper = inr (refl, refl) }

-- a power of at most 18 is not below -18
pub not_low : (e : ℤ) → unsigned_abs e ≤ 18 → int_lt e (negsuc 17) ≡ false
not_low (pos n) small = refl
not_low (negsuc n) small = le-ltb 17 n (omega (arith, small))

digits-drop : (ds : List ℕ) (i : ℕ) → AllDigits 10 ds → AllDigits 10 (drop i ds)
digits-drop ds zero all = all
digits-drop [] (suc i) all = tt
digits-drop (d ∷ ds) (suc i) all = digits-drop ds i all.1

-- where the first digits are too long a number, all are
pub digits_drop : (n : ℕ) (ds : List ℕ) (i : ℕ) → AllDigits 10 ds → IsLong (digits_value_after 10 n (take i ds)) → IsLong (digits_value_after 10 n ds)
digits_drop n ds i all long =
    subst IsLong (sym (value_append n (take i ds) (drop i ds)) ∙ ap (digits_value_after 10 n) (take-append-drop i ds))
    (long_rest (digits_value_after 10 n (take i ds)) (drop i ds) (digits-drop ds i all) long)

-- two whole numbers that are held to 2^100
pub ratio-large : (negative : Bool) (t b top bottom : ℕ) → top ≡ min t (2 ^ 100) → bottom ≡ min b (2 ^ 100) → (bottom ≡ 0 → ⊥) → (limit ≤ top) ⊎ (limit ≤ bottom)
    → Err OutOfLimit ≡ cond (nat_lt 0 b) (ratio_of negative t b) (Err NotANumber)
unfolding ratio_of
ratio-large negative t b top bottom top_is bottom_is some large =
    let b_some : 0 < b = ⊎_elim (λ (e : b ≡ 0). absurd (some (omega (arith, bottom_is, e)))) (λ (h : 0 < b). h) (eq-zero-or-pos b) in
    let outside : (nat_lt t limit && nat_lt b limit) ≡ false =
    elim large [ inl h ↦ and_left _ _ (le-ltb t limit (omega (arith, h, top_is))) | inr h ↦ and_right _ _ (le-ltb b limit (omega (arith, h, bottom_is))) ] in
    sym (cond-true _ _ _ (lt-ltb 0 b b_some) ∙ cond-false _ _ _ outside)

pub ratio-small : (negative : Bool) (t b top bottom : ℕ) → top ≡ min t (2 ^ 100) → bottom ≡ min b (2 ^ 100) → (bottom ≡ 0 → ⊥) → top < limit → bottom < limit
    → readable (lowest (signed negative top) bottom) ≡ cond (nat_lt 0 b) (ratio_of negative t b) (Err NotANumber)
unfolding ratio_of
ratio-small negative t b top bottom top_is bottom_is some top_small bottom_small =
    let b_some : 0 < b = ⊎_elim (λ (e : b ≡ 0). absurd (some (omega (arith, bottom_is, e)))) (λ (h : 0 < b). h) (eq-zero-or-pos b) in
    let t_same : top ≡ t = omega (arith, top_is) in
    let b_same : bottom ≡ b = omega (arith, bottom_is) in
    ap₂ (λ x y. readable (lowest (signed negative x) y)) t_same b_same
    ∙ sym (cond-true _ _ _ (lt-ltb 0 b b_some) ∙ cond-true _ _ _ (and_from _ _ (lt-ltb t limit (omega (arith, t_same))) (lt-ltb b limit (omega (arith, b_same)))))

-- ---- decimals

-- digits in front that are too long
pub decimal-long_front : (negative : Bool) (front part : List ℕ) (p : ℤ) → AllDigits 10 part → IsLong (digits_value_after 10 0 front) → Err OutOfLimit ≡ decimal_of negative (digits_value 10 (front ++ part)) p
decimal-long_front negative front part p all long =
    sym (decimal-long negative (digits_value 10 (front ++ part)) p
    (subst IsLong (sym (value_append 0 front part)) (long_rest (digits_value_after 10 0 front) part all long)))

-- digits that are too long with those after the point
pub decimal-long_part : (negative : Bool) (front part : List ℕ) (p : ℤ) → IsLong (digits_value_after 10 (digits_value_after 10 0 front) part) → Err OutOfLimit ≡ decimal_of negative (digits_value 10 (front ++ part)) p
decimal-long_part negative front part p long =
    sym (decimal-long negative (digits_value 10 (front ++ part)) p (subst IsLong (sym (value_append 0 front part)) long))

-- digits that are all 0
pub decimal-none : (negative : Bool) (front part : List ℕ) (p : ℤ) (m zeros : ℕ) → IsSignificant (digits_value_after 10 (digits_value_after 10 0 front) part) m zeros → m ≡ 0
    → Ok (record { num = pos 0; den = 1 }) ≡ decimal_of negative (digits_value 10 (front ++ part)) p
decimal-none negative front part p m zeros is none =
    sym (decimal-zero negative (digits_value 10 (front ++ part)) p (value_append 0 front part ∙ is.value ∙ ap (λ z. z * 10 ^ zeros) none ∙ zero-mul (10 ^ zeros)))

-- digits with a power that was brought to a size of 2^100
pub decimal-some : (negative : Bool) (front part : List ℕ) (power p : ℤ) (m zeros : ℕ) → IsSignificant (digits_value_after 10 (digits_value_after 10 0 front) part) m zeros → 0 < m → length part < 2 ^ 70 → zeros < 2 ^ 70 → power ≡ clamped p
    → limited_of negative m ((power -ℤ pos (length part)) +ℤ pos zeros) ≡ decimal_of negative (digits_value 10 (front ++ part)) (p -ℤ pos (length part))
decimal-some negative front part power p m zeros is some places_small zeros_small same =
    ap (λ z. limited_of negative m ((z -ℤ pos (length part)) +ℤ pos zeros)) same
    ∙ limited-clamped negative m p (length part) zeros some places_small zeros_small
    ∙ sym (decimal-significant negative (digits_value 10 (front ++ part)) m zeros (p -ℤ pos (length part)) (subst (λ n. IsSignificant n m zeros) (sym (value_append 0 front part)) is) some)
