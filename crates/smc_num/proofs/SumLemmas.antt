-- Sums of fractions: the parts over the least common denominator, brought to lowest terms by what the denominators share.
use Rattle.std.proofs.Common.{◌≡◌, ℕ, zero, suc, ◌+◌, ◌*◌, ◌/◌, ◌%◌, ◌<◌, ◌≤◌, Bool, true, ℤ, pos, negsuc, neg_ℤ, ◌+ℤ◌, ◌*ℤ◌, int_lt, unsigned_abs, refl, sym, ◌∙◌, ap, ap₂, subst, subst₂, Result, IsOkUnless, arith, le-ltb, mul-one, mul_assoc, mul_comm, mul-pos, ⊎_elim}
use Rattle.std.proofs.lemmas.Bool.{cases_lt}
use Rattle.std.specs.Int.{IsGcd, ◌∣◌}
use Rattle.std.proofs.lemmas.Int.{ints, unsigned_abs-mul}
use Rattle.std.proofs.lemmas.Nat.Gcd.{dvd_refl, dvd_trans, IsGcd-from_mod, IsGcd-swap}
use native.Mathlib.Nat.{div-mul_cancel, one-dvd, eq_of_mul-eq-mul_right, dvd-mul_right, dvd-mul_left_of_dvd, dvd-add_iff_right, dvd-add_iff_left}
use borrow.Author.Differences.{up, down}
use lib.IntN.{+ℤ_comm}
use Rattle.smc_num.specs.declared.fault.NumFault.{NumFault}
use Rattle.smc_num.specs.declared.fault.NumFault.TheVariants.{OutOfLimit}
use Rattle.smc_num.specs.Gcd.{IsCoprime}
use Rattle.smc_num.specs.Fraction.{Fraction, IsFrac, limit, signed, within, lowest}
use Rattle.smc_num.specs.Arithmetic.{sum_of, difference_of}
use Rattle.smc_num.proofs.GcdLemmas.{gcd_some, coprime_quotients, coprime_one, coprime_parts, coprime-swap, coprime-mul_left, dvd_of_coprime}
use Rattle.smc_num.proofs.LowestLemmas.{unsigned_abs-signed, lowest_is, factor_some, lowest-refusal, negated_product}

-- ---- divisors of a sum of integers

dvd_of_gap : (d a b : ℕ) → d ∣ a → d ∣ unsigned_abs (pos a +ℤ neg_ℤ (pos b)) → d ∣ b
dvd_of_gap d a b p q =
    ⊎_elim
    (λ (less : a < b).
    let apart : unsigned_abs (pos a +ℤ neg_ℤ (pos b)) + a ≡ b = omega (arith, ints) in
    subst (λ x. d ∣ x) apart ((dvd-add_iff_left d p).0 q))
    (λ (more : b ≤ a).
    let apart : unsigned_abs (pos a +ℤ neg_ℤ (pos b)) + b ≡ a = omega (arith, ints) in
    (dvd-add_iff_right d q).1 (subst (λ x. d ∣ x) (sym apart) p))
    (cases_lt a b)

dvd_of_gap_back : (d a b : ℕ) → d ∣ b → d ∣ unsigned_abs (pos a +ℤ neg_ℤ (pos b)) → d ∣ a
dvd_of_gap_back d a b p q =
    ⊎_elim
    (λ (less : a < b).
    let apart : unsigned_abs (pos a +ℤ neg_ℤ (pos b)) + a ≡ b = omega (arith, ints) in
    (dvd-add_iff_right d q).1 (subst (λ x. d ∣ x) (sym apart) p))
    (λ (more : b ≤ a).
    let apart : unsigned_abs (pos a +ℤ neg_ℤ (pos b)) + b ≡ a = omega (arith, ints) in
    subst (λ x. d ∣ x) apart ((dvd-add_iff_left d p).0 q))
    (cases_lt a b)

-- what divides a sum and one part divides the other part
dvd_of_sum : (d : ℕ) (x y : ℤ) → d ∣ unsigned_abs x → d ∣ unsigned_abs (x +ℤ y) → d ∣ unsigned_abs y
dvd_of_sum d (pos a) (pos b) p q = (dvd-add_iff_right d p).1 q
dvd_of_sum d (pos a) (negsuc b) p q = dvd_of_gap d a (suc b) p q
dvd_of_sum d (negsuc a) (pos b) p q = dvd_of_gap_back d b (suc a) p q
dvd_of_sum d (negsuc a) (negsuc b) p q =
    let apart : suc (suc (a + b)) ≡ suc a + suc b = omega arith in
    (dvd-add_iff_right d p).1 (subst (λ x. d ∣ x) apart q)

-- the sum of n over (right * g) and m over (left * g), of which left and right share nothing, shares nothing with left
sum_coprime_left : (n m : ℤ) (left right den : ℕ) → IsCoprime left right → IsCoprime (unsigned_abs m) den → left ∣ den → IsCoprime (unsigned_abs (n *ℤ pos left +ℤ m *ℤ pos right)) left
sum_coprime_left n m left right den apart coprime part = (
  one-dvd (unsigned_abs (n *ℤ pos left +ℤ m *ℤ pos right)),
  one-dvd left,
  λ d p q.
      let first : d ∣ unsigned_abs (n *ℤ pos left) = subst (λ x. d ∣ x) (sym (unsigned_abs-mul n (pos left))) (dvd-mul_left_of_dvd d q (unsigned_abs n)) in
      let second : d ∣ unsigned_abs m * right = subst (λ x. d ∣ x) (unsigned_abs-mul m (pos right)) (dvd_of_sum d (n *ℤ pos left) (m *ℤ pos right) first p) in
      let free : IsCoprime d right = coprime_parts left right d right apart q (dvd_refl right) in
      let last : d ∣ unsigned_abs m = dvd_of_coprime d right (unsigned_abs m) free (subst (λ x. d ∣ x) (mul_comm (unsigned_abs m) right) second) in
      coprime.2 d last (dvd_trans d q part),
)

sum_coprime_right : (n m : ℤ) (left right den : ℕ) → IsCoprime left right → IsCoprime (unsigned_abs n) den → right ∣ den → IsCoprime (unsigned_abs (n *ℤ pos left +ℤ m *ℤ pos right)) right
sum_coprime_right n m left right den apart coprime part =
    subst (λ z. IsCoprime (unsigned_abs z) right) (+ℤ_comm (m *ℤ pos right) (n *ℤ pos left))
    (sum_coprime_left m n right left den (coprime-swap left right apart) coprime part)

scaled_twice : (n : ℤ) (left g : ℕ) → n *ℤ pos (left * g) ≡ (n *ℤ pos left) *ℤ pos g
scaled_twice (pos n) left g = ap pos (sym (mul_assoc n left g))
scaled_twice (negsuc n) left g =
    ap (λ z. neg_ℤ (pos z)) (sym (mul_assoc (suc n) left g)) ∙ sym (negated_product (pos (suc n * left)) g)

scaled_sum : (x y : ℤ) (g : ℕ) → (x +ℤ y) *ℤ pos g ≡ x *ℤ pos g +ℤ y *ℤ pos g
scaled_sum x y g =
    let parts : up (x +ℤ y) + down x + down y ≡ down (x +ℤ y) + up x + up y = omega (arith, ints) in
    omega (arith, ints, ap (λ z. z * g) parts)

widened : (n m : ℤ) (left right g : ℕ) → n *ℤ pos (left * g) +ℤ m *ℤ pos (right * g) ≡ (n *ℤ pos left +ℤ m *ℤ pos right) *ℤ pos g
widened n m left right g = ap₂ ◌+ℤ◌ (scaled_twice n left g) (scaled_twice m right g) ∙ sym (scaled_sum (n *ℤ pos left) (m *ℤ pos right) g)

widened_one : (n m : ℤ) → n *ℤ pos 1 +ℤ m *ℤ pos 1 ≡ (n +ℤ m) *ℤ pos 1
widened_one n m = omega (arith, ints)

sum_value : (x r g right left q : ℕ) → (x * r * g) * (right * (left * q)) ≡ x * ((right * g) * (left * (q * r)))
sum_value x r g right left q = omega arith

multiple_sign : (n : ℤ) (g : ℕ) → n *ℤ pos g ≡ signed (int_lt n (pos 0)) (unsigned_abs (n *ℤ pos g))
multiple_sign (pos n) g = rw (le-ltb n 0 (omega arith))
multiple_sign (negsuc n) g = sym (ap (λ z. neg_ℤ (pos z)) (unsigned_abs-signed true (suc n * g)))

-- a multiple has the sign of what is multiplied
pub sign_of_multiple : (n : ℤ) (g : ℕ) (z : ℤ) → z ≡ n *ℤ pos g → z ≡ signed (int_lt n (pos 0)) (unsigned_abs z)
sign_of_multiple n g z is = subst (λ y. y ≡ signed (int_lt n (pos 0)) (unsigned_abs y)) (sym is) (multiple_sign n g)

-- what a sum of fractions comes to
pub record IsSum (a b : Fraction) (x y : ℕ) (negative : Bool) : Type 0 where
  pub coprime : IsCoprime x y
  pub some : 0 < y
  pub value : sum_of a b ≡ within (signed negative x) y

-- g is what the denominators share, num the sum over the least common denominator, r what num and g share
pub sum_by : (a b : Fraction) (g left right : ℕ) (num : ℤ) (r x y : ℕ) → IsFrac a → IsFrac b → IsGcd a.den b.den g → left ≡ b.den / g → right ≡ a.den / g
    → num ≡ a.num *ℤ pos left +ℤ b.num *ℤ pos right → IsGcd (unsigned_abs num % g) g r → x ≡ unsigned_abs num / r → y ≡ right * (b.den / r)
    → IsSum a b x y (int_lt num (pos 0))
unfolding sum_of
sum_by a b g left right num r x y a_is b_is g_is left_is right_is num_is r_is x_is y_is =
    let g_some = gcd_some a.den b.den g g_is (omega (arith, a_is.den_some)) in
    let r_some = gcd_some (unsigned_abs num % g) g r r_is (omega arith) in
    let left_times : left * g ≡ b.den = ap (λ z. z * g) left_is ∙ div-mul_cancel g g_is.1 in
    let right_times : right * g ≡ a.den = ap (λ z. z * g) right_is ∙ div-mul_cancel g g_is.0 in
    let whole : IsGcd (unsigned_abs num) g r = IsGcd-from_mod (unsigned_abs num) g r (IsGcd-swap (unsigned_abs num % g) g r r_is) in
    let x_times : x * r ≡ unsigned_abs num = ap (λ z. z * r) x_is ∙ div-mul_cancel r whole.0 in
    let q_times : (g / r) * r ≡ g = div-mul_cancel r whole.1 in
    let rest : b.den / r ≡ left * (g / r) = eq_of_mul-eq-mul_right r r_some _ _
    (div-mul_cancel r (dvd_trans r whole.1 g_is.1) ∙ sym left_times ∙ ap (λ z. left * z) (sym q_times) ∙ sym (mul_assoc left (g / r) r)) in
    let apart : IsCoprime left right = coprime-swap right left (coprime_quotients a.den b.den g right left g_some g_is right_times left_times) in
    let left_part : left ∣ b.den = subst (λ z. left ∣ z) left_times (dvd-mul_right left g) in
    let right_part : right ∣ a.den = subst (λ z. right ∣ z) right_times (dvd-mul_right right g) in
    let x_part : x ∣ unsigned_abs num = subst (λ z. x ∣ z) x_times (dvd-mul_right x r) in
    let free_left : IsCoprime x left = coprime_parts (unsigned_abs num) left x left
    (subst (λ z. IsCoprime (unsigned_abs z) left) (sym num_is) (sum_coprime_left a.num b.num left right b.den apart b_is.coprime left_part)) x_part (dvd_refl left) in
    let free_right : IsCoprime x right = coprime_parts (unsigned_abs num) right x right
    (subst (λ z. IsCoprime (unsigned_abs z) right) (sym num_is) (sum_coprime_right a.num b.num left right a.den apart a_is.coprime right_part)) x_part (dvd_refl right) in
    let free_rest : IsCoprime x (g / r) = coprime_quotients (unsigned_abs num) g r x (g / r) r_some whole x_times q_times in
    let y_parts : y ≡ right * (left * (g / r)) = y_is ∙ ap (λ z. right * z) rest in
    let coprime : IsCoprime x y = subst (λ z. IsCoprime x z) (sym y_parts)
    (coprime-swap (right * (left * (g / r))) x (coprime-mul_left right (left * (g / r)) x (coprime-swap x right free_right)
    (coprime-mul_left left (g / r) x (coprime-swap x left free_left) (coprime-swap x (g / r) free_rest)))) in
    let wide : a.num *ℤ pos b.den +ℤ b.num *ℤ pos a.den ≡ num *ℤ pos g =
    subst₂ (λ e f. a.num *ℤ pos e +ℤ b.num *ℤ pos f ≡ num *ℤ pos g) left_times right_times
    (widened a.num b.num left right g ∙ ap (λ z. z *ℤ pos g) (sym num_is)) in
    let value : unsigned_abs (a.num *ℤ pos b.den +ℤ b.num *ℤ pos a.den) * y ≡ x * (a.den * b.den) =
    ap (λ z. unsigned_abs z * y) wide ∙ ap (λ z. z * y) (unsigned_abs-mul num (pos g)) ∙ ap (λ z. (z * g) * y) (sym x_times)
    ∙ ap (λ z. (x * r * g) * z) y_parts ∙ sum_value x r g right left (g / r)
    ∙ ap₂ (λ e f. x * (e * f)) right_times (ap (λ z. left * z) q_times ∙ left_times) in
    let quotient_some : 0 < b.den / r = factor_some (b.den / r) r b.den (div-mul_cancel r (dvd_trans r whole.1 g_is.1)) b_is.den_some in
    record {
      coprime = coprime;
      some = subst (λ z. 0 < z) (sym y_is) (mul-pos (factor_some right g a.den right_times a_is.den_some) quotient_some);
      value = lowest_is _ _ (int_lt num (pos 0)) x y (mul-pos a_is.den_some b_is.den_some) coprime (sign_of_multiple num g _ wide) value;
    }

-- whole numbers are added as they are
pub sum_of-whole : (a b : Fraction) → a.den ≡ 1 → b.den ≡ 1 → sum_of a b ≡ within (signed (int_lt (a.num +ℤ b.num) (pos 0)) (unsigned_abs (a.num +ℤ b.num))) 1
unfolding sum_of
sum_of-whole a b a_whole b_whole =
    let total : a.num *ℤ pos 1 +ℤ b.num *ℤ pos 1 ≡ (a.num +ℤ b.num) *ℤ pos 1 = widened_one a.num b.num in
    subst₂ (λ d e. lowest (a.num *ℤ pos e +ℤ b.num *ℤ pos d) (d * e) ≡ within (signed (int_lt (a.num +ℤ b.num) (pos 0)) (unsigned_abs (a.num +ℤ b.num))) 1) (sym a_whole) (sym b_whole)
    (lowest_is _ 1 (int_lt (a.num +ℤ b.num) (pos 0)) (unsigned_abs (a.num +ℤ b.num)) 1 (omega arith) (coprime_one _) (sign_of_multiple (a.num +ℤ b.num) 1 _ total)
    (ap (λ z. unsigned_abs z * 1) total ∙ ap (λ z. z * 1) (unsigned_abs-mul (a.num +ℤ b.num) (pos 1) ∙ mul-one _)))

-- a difference is the sum with the other sign
pub difference_of-sum : (a b : Fraction) → sum_of a (record { num = neg_ℤ b.num; den = b.den }) ≡ difference_of a b
unfolding sum_of difference_of
difference_of-sum a b = ap (λ z. lowest (a.num *ℤ pos b.den +ℤ z) (a.den * b.den)) (negated_product b.num a.den)

-- the same, step by step as the parts are computed
pub sum_steps : (a b : Fraction) (g : ℕ) (s t num : ℤ) (size rem r x y : ℕ) → IsFrac a → IsFrac b → IsGcd a.den b.den g → s ≡ a.num *ℤ pos (b.den / g) → t ≡ b.num *ℤ pos (a.den / g)
    → num ≡ s +ℤ t → size ≡ unsigned_abs num → rem ≡ size % g → IsGcd rem g r → x ≡ size / r → y ≡ (a.den / g) * (b.den / r) → IsSum a b x y (int_lt num (pos 0))
sum_steps a b g s t num size rem r x y a_is b_is g_is s_is t_is num_is size_is rem_is r_is x_is y_is =
    sum_by a b g (b.den / g) (a.den / g) num r x y a_is b_is g_is refl refl (num_is ∙ ap₂ ◌+ℤ◌ s_is t_is)
    (subst (λ z. IsGcd z g r) (rem_is ∙ ap (λ z. z % g) size_is) r_is) (x_is ∙ ap (λ z. z / r) size_is) y_is

pub whole_steps : (a b : Fraction) (num : ℤ) (size same : ℕ) (r : Result Fraction NumFault) → a.den ≡ 1 → b.den ≡ 1 → num ≡ a.num +ℤ b.num → size ≡ unsigned_abs num → same ≡ size
    → r ≡ within (signed (int_lt num (pos 0)) same) 1 → r ≡ sum_of a b
whole_steps a b num size same r a_whole b_whole num_is size_is same_is is =
    is ∙ ap (λ z. within (signed (int_lt num (pos 0)) z) 1) (same_is ∙ size_is)
    ∙ ap (λ z. within (signed (int_lt z (pos 0)) (unsigned_abs z)) 1) num_is ∙ sym (sum_of-whole a b a_whole b_whole)

pub sum_of-refusal : (a b : Fraction) → IsOkUnless (sum_of a b) OutOfLimit
unfolding sum_of
sum_of-refusal a b = lowest-refusal (a.num *ℤ pos b.den +ℤ b.num *ℤ pos a.den) (a.den * b.den)

unsigned_abs-neg_ℤ : (n : ℤ) → unsigned_abs (neg_ℤ n) ≡ unsigned_abs n
unsigned_abs-neg_ℤ (pos zero) = refl
unsigned_abs-neg_ℤ (pos (suc n)) = refl
unsigned_abs-neg_ℤ (negsuc n) = refl

pub IsFrac-negated : (n : ℤ) (d : ℕ) → IsFrac (record { num = n; den = d }) → IsFrac (record { num = neg_ℤ n; den = d })
IsFrac-negated n d is =
    let same = sym (unsigned_abs-neg_ℤ n) in
    record {
      coprime = subst (λ x. IsCoprime x d) same is.coprime;
      num_small = subst (λ x. x < limit) same is.num_small;
      den_small = is.den_small;
      den_some = is.den_some;
    }
