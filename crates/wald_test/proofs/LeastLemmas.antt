-- The terms of two fractions have the least denominator that serves both.
use Rattle.std.proofs.Common.{◌≡◌, ℕ, ◌*◌, ◌/◌, ◌<◌, ◌≤◌, sym, ap, ◌∙◌, subst, subst₂, arith, mul_comm, one-mul}
use Rattle.std.specs.Int.{IsGcd, ◌∣◌}
use native.Mathlib.Nat.{dvd_trans, dvd-mul_left, mul-dvd-mul_right, dvd_of_mul-dvd-mul_right, one-dvd, le_of_dvd, div-mul_cancel, eq_of_mul-eq-mul_right}
use Rattle.smc_num.specs.Gcd.{gcd_of, IsCoprime}
use Rattle.smc_num.proofs.GcdLemmas.{gcd_some, gcd_of-IsGcd, dvd_of_coprime, coprime-swap, coprime_quotients}
use Rattle.wald_test.specs.declared.terms.Terms.{Terms}
use Rattle.wald_test.specs.Settings.{least_terms}
use Rattle.wald_test.proofs.TermsLemmas.{IsScaled, shared_of, least_scaled, divides_shared, scaled_some}

-- a denominator in two parts, of which the second is what it shares with the first numerator
part_divides :
    (a n shared b x y m : ℕ) → 0 < shared → 0 < n → IsCoprime a n → ((d : ℕ) → d ∣ shared → d ∣ b → d ∣ 1) →
    x * (n * shared) ≡ a * shared * m → y * (n * shared) ≡ b * m → n * shared ∣ m
part_divides a n shared b x y m shared_some n_some coprime apart first second =
    let first_by : (x * n) * shared ≡ (a * m) * shared = omega arith in
    let first_off : x * n ≡ a * m = eq_of_mul-eq-mul_right shared shared_some (x * n) (a * m) first_by in
    let divides : n ∣ a * m = subst (λ (p : ℕ). n ∣ p) first_off (dvd-mul_left n x) in
    let part : n ∣ m = dvd_of_coprime n a m (coprime-swap a n coprime) divides in
    let rest : ℕ = m / n in
    let whole : rest * n ≡ m = div-mul_cancel n part in
    let along : b * (rest * n) ≡ b * m = ap (λ (p : ℕ). b * p) whole in
    let second_by : (y * shared) * n ≡ (b * rest) * n = omega arith in
    let second_off : y * shared ≡ b * rest = eq_of_mul-eq-mul_right n n_some (y * shared) (b * rest) second_by in
    let shared_divides : shared ∣ b * rest = subst (λ (p : ℕ). shared ∣ p) second_off (dvd-mul_left shared y) in
    let shared_part : shared ∣ rest = dvd_of_coprime shared b rest (one-dvd shared, one-dvd b, apart) shared_divides in
    subst₂ (λ (p q : ℕ). p ∣ q) (mul_comm shared n) whole (mul-dvd-mul_right shared shared_part n)

-- a denominator that shares nothing with both numerators divides each denominator of the two fractions
divides_each :
    (a b n x y m : ℕ) → 0 < n → ((d : ℕ) → d ∣ a → d ∣ b → d ∣ n → d ∣ 1) → x * n ≡ a * m → y * n ≡ b * m → n ∣ m
divides_each a b n x y m some apart first second =
    let shared : ℕ = gcd_of a n in
    let is : IsGcd a n shared = gcd_of-IsGcd a n in
    let shared_some : 0 < shared = gcd_some a n shared is (omega arith) in
    let top : a / shared * shared ≡ a = div-mul_cancel shared is.0 in
    let bottom : n / shared * shared ≡ n = div-mul_cancel shared is.1 in
    let first_parts : x * (n / shared * shared) ≡ a / shared * shared * m =
    ap (λ (p : ℕ). x * p) bottom ∙ first ∙ sym (ap (λ (p : ℕ). p * m) top) in
    let second_parts : y * (n / shared * shared) ≡ b * m = ap (λ (p : ℕ). y * p) bottom ∙ second in
    subst (λ (p : ℕ). p ∣ m) bottom
    (part_divides (a / shared) (n / shared) shared b x y m shared_some (scaled_some (n / shared) n shared bottom some)
    (coprime_quotients a n shared (a / shared) (n / shared) shared_some is top bottom)
    (λ d first_by second_by. apart d (dvd_trans d first_by is.0) second_by (dvd_trans d first_by is.1))
    first_parts second_parts)

-- the terms share nothing
terms_apart :
    (a b n : ℕ) (t : Terms) (d : ℕ) → IsScaled a b n t (shared_of a b n) → d ∣ t.first → d ∣ t.second → d ∣ t.parts → d ∣ 1
terms_apart a b n t d is first second parts =
    let shared : ℕ = shared_of a b n in
    let together : d * shared ∣ shared =
    divides_shared a b n (d * shared)
    (subst (λ (p : ℕ). d * shared ∣ p) is.first (mul-dvd-mul_right d first shared))
    (subst (λ (p : ℕ). d * shared ∣ p) is.second (mul-dvd-mul_right d second shared))
    (subst (λ (p : ℕ). d * shared ∣ p) is.parts (mul-dvd-mul_right d parts shared)) in
    dvd_of_mul-dvd-mul_right {k = shared} d {n = 1} is.some (subst (λ (p : ℕ). d * shared ∣ p) (sym (one-mul shared)) together)

-- a fraction keeps its value
pub least_terms-first : (a b n : ℕ) → 0 < n → (least_terms a b n).first * n ≡ a * (least_terms a b n).parts
least_terms-first a b n some =
    let t : Terms = least_terms a b n in
    let is : IsScaled a b n t (shared_of a b n) = least_scaled a b n some in
    let up : t.first * (t.parts * shared_of a b n) ≡ t.first * n = ap (λ (p : ℕ). t.first * p) is.parts in
    let down : t.first * shared_of a b n * t.parts ≡ a * t.parts = ap (λ (p : ℕ). p * t.parts) is.first in
    omega arith

pub least_terms-second : (a b n : ℕ) → 0 < n → (least_terms a b n).second * n ≡ b * (least_terms a b n).parts
least_terms-second a b n some =
    let t : Terms = least_terms a b n in
    let is : IsScaled a b n t (shared_of a b n) = least_scaled a b n some in
    let up : t.second * (t.parts * shared_of a b n) ≡ t.second * n = ap (λ (p : ℕ). t.second * p) is.parts in
    let down : t.second * shared_of a b n * t.parts ≡ b * t.parts = ap (λ (p : ℕ). p * t.parts) is.second in
    omega arith

-- a denominator over which both fractions have whole numerators is not less
pub least_terms-least : (a b n x y m : ℕ) → 0 < n → 0 < m → x * n ≡ a * m → y * n ≡ b * m → (least_terms a b n).parts ≤ m
least_terms-least a b n x y m some m_some first second =
    let t : Terms = least_terms a b n in
    let shared : ℕ = shared_of a b n in
    let is : IsScaled a b n t shared = least_scaled a b n some in
    let parts_some : 0 < t.parts = scaled_some t.parts n shared is.parts some in
    let x_parts : x * (t.parts * shared) ≡ x * n = ap (λ (p : ℕ). x * p) is.parts in
    let y_parts : y * (t.parts * shared) ≡ y * n = ap (λ (p : ℕ). y * p) is.parts in
    let a_parts : t.first * shared * m ≡ a * m = ap (λ (p : ℕ). p * m) is.first in
    let b_parts : t.second * shared * m ≡ b * m = ap (λ (p : ℕ). p * m) is.second in
    let first_by : (x * t.parts) * shared ≡ (t.first * m) * shared = omega arith in
    let second_by : (y * t.parts) * shared ≡ (t.second * m) * shared = omega arith in
    le_of_dvd m_some
    (divides_each t.first t.second t.parts x y m parts_some (λ d. terms_apart a b n t d is)
    (eq_of_mul-eq-mul_right shared is.some (x * t.parts) (t.first * m) first_by)
    (eq_of_mul-eq-mul_right shared is.some (y * t.parts) (t.second * m) second_by))
