-- Powers whose exponents are doubled.
use Rattle.std.proofs.Common.{◌≡◌, ℕ, suc, ◌+◌, ◌*◌, ◌^◌, ◌<◌, ◌≤◌, ap, ◌∙◌, arith}
use Rattle.std.proofs.Math.Nat.{pow-zero, pow-suc, two-pow-succ, lt_of_not-le}
use Rattle.std.proofs.lemmas.Nat.{pow-add}
use Rattle.std.proofs.Math.Pow.{pow_mono}

-- a number with an even exponent is the square of half of it
pub pow-twice : (x n : ℕ) → x ^ (2 * n) ≡ x ^ n * x ^ n
pow-twice x n =
    let both : 2 * n ≡ n + n = omega arith in
    ap (λ (k : ℕ). x ^ k) both ∙ pow-add x n n

-- a power of two with an odd exponent
pub two-pow-twice-one : (n : ℕ) → 2 ^ (2 * n + 1) ≡ 2 * (2 ^ n * 2 ^ n)
two-pow-twice-one n =
    let next : 2 * n + 1 ≡ suc (2 * n) = omega arith in
    let doubled : 2 ^ suc (2 * n) ≡ 2 ^ (2 * n) + 2 ^ (2 * n) = two-pow-succ (2 * n) in
    let even : 2 ^ (2 * n) ≡ 2 ^ n * 2 ^ n = pow-twice 2 n in
    let along : 2 ^ (2 * n + 1) ≡ 2 ^ suc (2 * n) = ap (λ (k : ℕ). 2 ^ k) next in
    omega arith

-- squaring once more squares the number
pub pow-squared : (x n : ℕ) → x ^ (2 ^ suc n) ≡ x ^ (2 ^ n) * x ^ (2 ^ n)
pow-squared x n =
    let doubled : 2 ^ suc n ≡ 2 ^ n + 2 ^ n = two-pow-succ n in
    ap (λ (k : ℕ). x ^ k) doubled ∙ pow-add x (2 ^ n) (2 ^ n)

-- no squaring leaves the number
pub pow-unsquared : (x : ℕ) → x ^ (2 ^ 0) ≡ x
pow-unsquared x =
    let one_more : x ^ suc 0 ≡ x ^ 0 * x = pow-suc x 0 in
    let none : x ^ 0 ≡ 1 = pow-zero x in
    one_more ∙ (ap (λ (k : ℕ). k * x) none ∙ omega arith)

-- exponents are ordered as their powers of two are
pub exponents_ordered : (i j : ℕ) → 2 ^ i < 2 ^ j → i < j
exponents_ordered i j less =
    lt_of_not-le (λ (other : j ≤ i). let powers : 2 ^ j ≤ 2 ^ i = pow_mono other in omega arith)
