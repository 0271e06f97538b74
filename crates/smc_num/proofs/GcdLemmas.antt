-- The greatest common divisor, and numbers that only 1 divides both.
use Rattle.std.proofs.Common.{◌≡◌, ℕ, zero, suc, ◌+◌, ◌*◌, ◌/◌, ◌%◌, ◌^◌, ◌<◌, ◌≤◌, Bool, true, false, cond, ◌&&◌, refl, sym, ◌∙◌, ap, subst, subst₂, mul_right_comm, arith, ⊎_elim, eq-eqb, eqb-true, mod-lt, eq-zero-or-pos, eq-or-lt_of_le, mul_comm, mul_assoc, one-mul, pow-suc}
use Rattle.std.specs.Int.{IsGcd, ◌∣◌}
use Rattle.std.proofs.lemmas.Bool.{and_from, and_parts, false≢true, cond_both}
use Rattle.std.proofs.lemmas.Nat.Gcd.{dvd_refl, dvd-zero, dvd_trans, dvd_antisymm, le_of_dvd, dvd_of_mod-eq-zero, mod-eq-zero_of_dvd, IsGcd-from_zero, IsGcd-from_mod, IsGcd-swap, same_from_IsGcd}
use native.Mathlib.Nat.{mod-eq_of_lt, zero-mul, mul-lt-mul_of_pos_right, dvd-mod_iff, dvd-add, dvd-mul_left, dvd-mul_right, one-dvd, eq-zero_of_zero-dvd, dvd_of_mul-dvd-mul_right, mul-dvd-mul_right, div-mul_cancel, mul-dvd-mul_left, eq_of_mul-eq-mul_right, pow-zero, div-add-mod', add-mul-mod_self_right}
use Rattle.smc_num.specs.Gcd.{greatest, divides, gcd_of, lcm_of, IsCoprime}

-- ---- the greatest number that passes a test

settled : (b : Bool) (x y g : ℕ) → (b ≡ true → x ≡ g) → (b ≡ false → y ≡ g) → cond b x y ≡ g
settled true x y g at_true at_false = at_true refl
settled false x y g at_true at_false = at_false refl

-- a number above 0 that passes, and that no greater one does, is the greatest
pub greatest_is : (test : ℕ → Bool) (n g : ℕ) → 0 < g → g ≤ n → test g ≡ true → ((d : ℕ) → g < d → test d ≡ true → ⊥) → greatest test n ≡ g
unfolding greatest
greatest_is test zero g some small passes none = omega arith
greatest_is test (suc n) g some small passes none =
    ⊎_elim
    (λ (same : g ≡ suc n). settled (test (suc n)) (suc n) (greatest test n) g (λ here. sym same)
    (λ fails. absurd (false≢true (sym fails ∙ subst (λ x. test x ≡ true) same passes))))
    (λ (less : g < suc n). settled (test (suc n)) (suc n) (greatest test n) g (λ here. absurd (none (suc n) less here))
    (λ fails. greatest_is test n g some (omega arith) passes none))
    (eq-or-lt_of_le small)

-- where no number above 0 passes, it is 0
pub greatest_none : (test : ℕ → Bool) (n : ℕ) → ((d : ℕ) → 0 < d → test d ≡ true → ⊥) → greatest test n ≡ 0
unfolding greatest
greatest_none test zero none = refl
greatest_none test (suc n) none =
    settled (test (suc n)) (suc n) (greatest test n) 0 (λ here. absurd (none (suc n) (omega arith) here)) (λ fails. greatest_none test n none)

-- where 0 passes, what is found does
pub greatest_passes : (test : ℕ → Bool) (n : ℕ) → test 0 ≡ true → test (greatest test n) ≡ true
unfolding greatest
greatest_passes test zero base = base
greatest_passes test (suc n) base =
    cond_both (test (suc n)) (suc n) (greatest test n) (λ k. test k ≡ true) (λ here. here) (λ fails. greatest_passes test n base)

-- ---- Euclid's algorithm

-- each two numbers have a greatest common divisor
euclid : (fuel a b : ℕ) → b ≤ fuel → (g : ℕ) × IsGcd a b g
euclid zero a b small = (a, IsGcd-from_zero a b (omega arith))
euclid (suc fuel) a zero small = (a, IsGcd-from_zero a zero refl)
euclid (suc fuel) a (suc b) small =
    let rest = euclid fuel (suc b) (a % suc b) (omega (arith, mod-lt a {m = suc b} (omega arith))) in
    (rest.0, IsGcd-from_mod a (suc b) rest.0 rest.1)

-- it is above 0 where one of the two is
pub gcd_some : (a b g : ℕ) → IsGcd a b g → 0 < a + b → 0 < g
gcd_some a b zero h some = omega (arith, eq-zero_of_zero-dvd h.0, eq-zero_of_zero-dvd h.1)
gcd_some a b (suc g) h some = omega arith

pub divides-true : (d n : ℕ) → d ∣ n → divides d n ≡ true
divides-true d n h = eq-eqb _ _ (mod-eq-zero_of_dvd d h)

pub true-divides : (d n : ℕ) → divides d n ≡ true → d ∣ n
true-divides d n h = dvd_of_mod-eq-zero d (eqb-true _ _ h)

-- `gcd_of` is what its name says
pub gcd_of-IsGcd : (a b : ℕ) → IsGcd a b (gcd_of a b)
unfolding gcd_of greatest
gcd_of-IsGcd a b =
    ⊎_elim
    (λ (none : a + b ≡ 0).
    let a_zero : a ≡ 0 = omega arith in
    let b_zero : b ≡ 0 = omega arith in
    subst (λ x. IsGcd x b (greatest (λ d. divides d x && divides d b) (x + b))) (sym a_zero)
    (subst (λ y. IsGcd 0 y (greatest (λ d. divides d 0 && divides d y) (0 + y))) (sym b_zero) (IsGcd-from_zero 0 0 refl)))
    (λ (some : 0 < a + b).
    let found = euclid b a b (omega arith) in
    let is = greatest_is (λ d. divides d a && divides d b) (a + b) found.0 (gcd_some a b found.0 found.1 some)
    (le_of_dvd some (dvd-add found.0 found.1.0 found.1.1))
    (and_from _ _ (divides-true found.0 a found.1.0) (divides-true found.0 b found.1.1))
    (λ d above passes.
    let parts = and_parts _ _ passes in
    let below = le_of_dvd (gcd_some a b found.0 found.1 some) (found.1.2 d (true-divides d a parts.0) (true-divides d b parts.1)) in
    absurd (omega (arith, below))) in
    subst (λ g. IsGcd a b g) (sym is) found.1)
    (eq-zero-or-pos (a + b))

-- no other number is
pub gcd_of-is : (a b g : ℕ) → IsGcd a b g → g ≡ gcd_of a b
gcd_of-is a b g h = same_from_IsGcd a b g (gcd_of a b) h (gcd_of-IsGcd a b)

-- ---- numbers that only 1 divides both

mod-mul_both : (a b c : ℕ) → 0 < c → (a % suc b) * c ≡ (a * c) % (suc b * c)
mod-mul_both a b c some =
    let whole = div-add-mod' a (suc b) in
    let apart : a * c ≡ (a % suc b) * c + (a / suc b) * (suc b * c) = omega (arith, ap (λ x. x * c) whole) in
    let below : (a % suc b) * c < suc b * c = mul-lt-mul_of_pos_right (mod-lt a {m = suc b} (omega arith)) some in
    sym (ap (λ x. x % (suc b * c)) apart ∙ add-mul-mod_self_right _ _ _ ∙ mod-eq_of_lt below)

-- the greatest common divisor grows with the two numbers
scaled : (fuel a b c g : ℕ) → b ≤ fuel → 0 < c → IsGcd a b g → IsGcd (a * c) (b * c) (g * c)
scaled fuel a zero c g small some h =
    let same = same_from_IsGcd a 0 g a h (IsGcd-from_zero a 0 refl) in
    subst (λ x. IsGcd (a * c) (0 * c) (x * c)) (sym same) (IsGcd-from_zero (a * c) (0 * c) (zero-mul c))
scaled zero a (suc b) c g small some h = absurd (omega arith)
scaled (suc fuel) a (suc b) c g small some h =
    let step : IsGcd (suc b) (a % suc b) g = (h.1, (dvd-mod_iff g h.1).1 h.0, λ d p q. h.2 d ((dvd-mod_iff d p).0 q) p) in
    let below : a % suc b ≤ fuel = omega (arith, mod-lt a {m = suc b} (omega arith)) in
    let rest = scaled fuel (suc b) (a % suc b) c g below some step in
    IsGcd-from_mod (a * c) (suc b * c) (g * c)
    (subst (λ x. IsGcd (suc b * c) x (g * c)) (mod-mul_both a b c some) rest)

-- what divides a product and has nothing in common with one factor divides the other
pub dvd_of_coprime : (a b c : ℕ) → IsCoprime a b → a ∣ b * c → a ∣ c
dvd_of_coprime a b zero h p = dvd-zero a
dvd_of_coprime a b (suc c) h p =
    let both = scaled b a b (suc c) 1 (omega arith) (omega arith) h in
    subst (λ x. a ∣ x) (one-mul (suc c)) (both.2 a (dvd-mul_right a (suc c)) p)

pub coprime-swap : (a b : ℕ) → IsCoprime a b → IsCoprime b a
coprime-swap a b h = IsGcd-swap a b 1 h

pub coprime_one : (a : ℕ) → IsCoprime a 1
coprime_one a = (one-dvd a, dvd_refl 1, λ d p q. q)

-- parts of the two have nothing in common either
pub coprime_parts : (a b x y : ℕ) → IsCoprime a b → x ∣ a → y ∣ b → IsCoprime x y
coprime_parts a b x y h p q = (one-dvd x, one-dvd y, λ d e f. h.2 d (dvd_trans d e p) (dvd_trans d f q))

pub coprime-mul_left : (a b c : ℕ) → IsCoprime a c → IsCoprime b c → IsCoprime (a * b) c
coprime-mul_left a b c h k =
    (one-dvd (a * b), one-dvd c, λ d p q. k.2 d (dvd_of_coprime d a b (coprime-swap a d (coprime_parts a c a d h (dvd_refl a) q)) p) q)

pub coprime-mul : (a b c d : ℕ) → IsCoprime a c → IsCoprime a d → IsCoprime b c → IsCoprime b d → IsCoprime (a * b) (c * d)
coprime-mul a b c d ac ad bc bd =
    coprime-swap (c * d) (a * b)
    (coprime-mul_left c d (a * b) (coprime-swap (a * b) c (coprime-mul_left a b c ac bc)) (coprime-swap (a * b) d (coprime-mul_left a b d ad bd)))

coprime-pow_one : (a b k : ℕ) → IsCoprime a b → IsCoprime (a ^ k) b
coprime-pow_one a b zero h = rw (pow-zero a) (coprime-swap b 1 (coprime_one b))
coprime-pow_one a b (suc k) h = rw (pow-suc a k) (coprime-mul_left (a ^ k) a b (coprime-pow_one a b k h) h)

pub coprime-pow : (a b k : ℕ) → IsCoprime a b → IsCoprime (a ^ k) (b ^ k)
coprime-pow a b zero h = rw (pow-zero a, pow-zero b) (coprime_one 1)
coprime-pow a b (suc k) h =
    let rest = coprime-pow a b k h in
    let mixed = coprime-swap (b ^ k) a (coprime-pow_one b a k (coprime-swap a b h)) in
    rw (pow-suc a k, pow-suc b k) (coprime-mul (a ^ k) a (b ^ k) b rest (coprime-pow_one a b k h) mixed h)

-- two numbers divided by their greatest common divisor
pub coprime_quotients : (a b g x y : ℕ) → 0 < g → IsGcd a b g → x * g ≡ a → y * g ≡ b → IsCoprime x y
coprime_quotients a b g x y some h p q = (
  one-dvd x,
  one-dvd y,
  λ d e f.
      let left : d * g ∣ a = subst (λ z. d * g ∣ z) p (mul-dvd-mul_right d e g) in
      let right : d * g ∣ b = subst (λ z. d * g ∣ z) q (mul-dvd-mul_right d f g) in
      dvd_of_mul-dvd-mul_right d {n = 1} some (subst (λ z. d * g ∣ z) (sym (one-mul g)) (h.2 (d * g) left right)),
)

-- ---- one fraction in lowest terms for each value

-- two fractions in lowest terms of one value are the same
pub same_lowest : (n d m e : ℕ) → 0 < d → IsCoprime n d → IsCoprime m e → n * e ≡ m * d → (n ≡ m) × (d ≡ e)
same_lowest n d m e some h k same =
    let left : d ∣ e = dvd_of_coprime d n e (coprime-swap n d h) (subst (λ z. d ∣ z) (sym same) (dvd-mul_left d m)) in
    let right : e ∣ d = dvd_of_coprime e m d (coprime-swap m e k) (subst (λ z. e ∣ z) same (dvd-mul_left e n)) in
    let dens : d ≡ e = dvd_antisymm left right in
    (eq_of_mul-eq-mul_right d some n m (ap (λ z. n * z) dens ∙ same), dens)

-- ---- the least common multiple

pub lcm_first : (a b : ℕ) → a ∣ lcm_of a b
unfolding lcm_of
lcm_first a b = dvd-mul_right a (b / gcd_of a b)

pub lcm_second : (a b : ℕ) → b ∣ lcm_of a b
unfolding lcm_of
lcm_second a b =
    let is = gcd_of-IsGcd a b in
    let g = gcd_of a b in
    let regrouped : b * (a / g) ≡ a * (b / g) =
    ap (λ z. z * (a / g)) (sym (div-mul_cancel g is.1)) ∙ mul_assoc (b / g) g (a / g) ∙ mul_comm (b / g) (g * (a / g))
    ∙ ap (λ z. z * (b / g)) (mul_comm g (a / g) ∙ div-mul_cancel g is.0) in
    subst (λ z. b ∣ z) regrouped (dvd-mul_right b (a / g))

-- it divides each number that both divide
pub lcm_least : (a b n : ℕ) → a ∣ n → b ∣ n → lcm_of a b ∣ n
unfolding lcm_of
lcm_least a b n p q =
    let is = gcd_of-IsGcd a b in
    let g = gcd_of a b in
    ⊎_elim
    (λ (none : g ≡ 0).
    let n_zero : n ≡ 0 = eq-zero_of_zero-dvd (subst (λ z. z ∣ n) (eq-zero_of_zero-dvd (subst (λ z. z ∣ a) none is.0)) p) in
    subst (λ z. a * (b / g) ∣ z) (sym n_zero) (dvd-zero (a * (b / g))))
    (λ (some : 0 < g).
    let a_parts : (a / g) * g ≡ a = div-mul_cancel g is.0 in
    let b_parts : (b / g) * g ≡ b = div-mul_cancel g is.1 in
    let apart = coprime_quotients a b g (a / g) (b / g) some is a_parts b_parts in
    let whole = div-mul_cancel a p in
    let n_parts : ((a / g) * (n / a)) * g ≡ n = mul_right_comm (a / g) (n / a) g ∙ ap (λ z. z * (n / a)) a_parts ∙ mul_comm a (n / a) ∙ whole in
    let part : b / g ∣ (a / g) * (n / a) = dvd_of_mul-dvd-mul_right (b / g) {n = (a / g) * (n / a)} some (subst₂ (λ x y. x ∣ y) (sym b_parts) (sym n_parts) q) in
    let last : b / g ∣ n / a = dvd_of_coprime (b / g) (a / g) (n / a) (coprime-swap (a / g) (b / g) apart) part in
    subst (λ z. a * (b / g) ∣ z) (mul_comm a (n / a) ∙ whole) (mul-dvd-mul_left (b / g) a last))
    (eq-zero-or-pos g)
