-- Powers and how they compare, for one large exponent that both sides are raised to.
use Rattle.std.proofs.Common.{◌≡◌, ◌≢◌, ℕ, zero, suc, ◌+◌, ◌*◌, ◌^◌, ◌<◌, ◌≤◌, sym, ap, ◌∙◌, subst, arith, mul_comm}
use Rattle.std.proofs.Math.Nat.{pow-zero, pow-suc, lt_of_not-le, pow-le-pow_left, pow-lt-pow_left, mul-le-mul, mul-le-mul_left}
use Rattle.std.proofs.Math.Pow.{pow_mono}
use Rattle.std.proofs.lemmas.Nat.{pow-add, mul-pow, pow_below}

-- a power with a product as its exponent
pub pow-mul : (x a b : ℕ) → x ^ (a * b) ≡ (x ^ a) ^ b
pow-mul x a zero =
    let none : a * 0 ≡ 0 = omega arith in
    ap (λ (k : ℕ). x ^ k) none ∙ pow-zero x ∙ sym (pow-zero (x ^ a))
pow-mul x a (suc b) =
    let more : a * suc b ≡ a * b + a = omega arith in
    ap (λ (k : ℕ). x ^ k) more ∙ pow-add x (a * b) a ∙ ap (λ (k : ℕ). k * x ^ a) (pow-mul x a b) ∙ sym (pow-suc (x ^ a) b)

-- two exponents may be exchanged
pub pow-swap : (x k n : ℕ) → (x ^ k) ^ n ≡ (x ^ n) ^ k
pow-swap x k n = sym (pow-mul x k n) ∙ ap (λ (e : ℕ). x ^ e) (mul_comm k n) ∙ pow-mul x n k

-- a power from below: a factor that does not stand in it need not be known
pub power_low : (n x k low : ℕ) → (0 < k → 2 ^ low ≤ x ^ n) → 2 ^ (k * low) ≤ (x ^ k) ^ n
power_low n x zero low known =
    let none : 0 * low ≡ 0 = omega arith in
    let one : 2 ^ (0 * low) ≡ 1 = ap (λ (e : ℕ). 2 ^ e) none ∙ pow-zero 2 in
    let other : (x ^ 0) ^ n ≡ 1 = pow-swap x 0 n ∙ pow-zero (x ^ n) in
    omega arith
power_low n x (suc k) low known =
    let turned : 2 ^ (suc k * low) ≡ (2 ^ low) ^ suc k = ap (λ (e : ℕ). 2 ^ e) (mul_comm (suc k) low) ∙ pow-mul 2 low (suc k) in
    let other : (x ^ suc k) ^ n ≡ (x ^ n) ^ suc k = pow-swap x (suc k) n in
    let within : (2 ^ low) ^ suc k ≤ (x ^ n) ^ suc k = pow-le-pow_left (known (omega arith)) (suc k) in
    omega arith

-- a power from above
pub power_high : (n x k high : ℕ) → (0 < k → x ^ n ≤ 2 ^ high) → (x ^ k) ^ n ≤ 2 ^ (k * high)
power_high n x zero high known =
    let none : 0 * high ≡ 0 = omega arith in
    let one : 2 ^ (0 * high) ≡ 1 = ap (λ (e : ℕ). 2 ^ e) none ∙ pow-zero 2 in
    let other : (x ^ 0) ^ n ≡ 1 = pow-swap x 0 n ∙ pow-zero (x ^ n) in
    omega arith
power_high n x (suc k) high known =
    let turned : 2 ^ (suc k * high) ≡ (2 ^ high) ^ suc k = ap (λ (e : ℕ). 2 ^ e) (mul_comm (suc k) high) ∙ pow-mul 2 high (suc k) in
    let other : (x ^ suc k) ^ n ≡ (x ^ n) ^ suc k = pow-swap x (suc k) n in
    let within : (x ^ n) ^ suc k ≤ (2 ^ high) ^ suc k = pow-le-pow_left (known (omega arith)) (suc k) in
    omega arith

-- the power of a product of three
pow-product : (n x y z : ℕ) → (x * y * z) ^ n ≡ x ^ n * y ^ n * z ^ n
pow-product n x y z = mul-pow (x * y) z n ∙ ap (λ (p : ℕ). p * z ^ n) (mul-pow x y n)

-- a power of two whose exponent is a sum of three
two-pow-sum : (a b c : ℕ) → 2 ^ (a + b + c) ≡ 2 ^ a * 2 ^ b * 2 ^ c
two-pow-sum a b c = pow-add 2 (a + b) c ∙ ap (λ (p : ℕ). p * 2 ^ c) (pow-add 2 a b)

-- a product of three from below
pub product_low : (n x y z a b c : ℕ) → 2 ^ a ≤ x ^ n → 2 ^ b ≤ y ^ n → 2 ^ c ≤ z ^ n → 2 ^ (a + b + c) ≤ (x * y * z) ^ n
product_low n x y z a b c first second third =
    let left : 2 ^ (a + b + c) ≡ 2 ^ a * 2 ^ b * 2 ^ c = two-pow-sum a b c in
    let right : (x * y * z) ^ n ≡ x ^ n * y ^ n * z ^ n = pow-product n x y z in
    let within : 2 ^ a * 2 ^ b * 2 ^ c ≤ x ^ n * y ^ n * z ^ n = mul-le-mul (mul-le-mul first second) third in
    subst (λ (p : ℕ). p ≤ (x * y * z) ^ n) (sym left) (subst (λ (p : ℕ). 2 ^ a * 2 ^ b * 2 ^ c ≤ p) (sym right) within)

-- a product of three from above
pub product_high : (n x y z a b c : ℕ) → x ^ n ≤ 2 ^ a → y ^ n ≤ 2 ^ b → z ^ n ≤ 2 ^ c → (x * y * z) ^ n ≤ 2 ^ (a + b + c)
product_high n x y z a b c first second third =
    let left : 2 ^ (a + b + c) ≡ 2 ^ a * 2 ^ b * 2 ^ c = two-pow-sum a b c in
    let right : (x * y * z) ^ n ≡ x ^ n * y ^ n * z ^ n = pow-product n x y z in
    let within : x ^ n * y ^ n * z ^ n ≤ 2 ^ a * 2 ^ b * 2 ^ c = mul-le-mul (mul-le-mul first second) third in
    subst (λ (p : ℕ). (x * y * z) ^ n ≤ p) (sym left) (subst (λ (p : ℕ). p ≤ 2 ^ a * 2 ^ b * 2 ^ c) (sym right) within)

-- numbers whose powers lie on either side of a gap
pub less_by_powers : (n l r high low : ℕ) → l ^ n ≤ 2 ^ high → 2 ^ low ≤ r ^ n → high < low → l < r
less_by_powers n l r high low l_high r_low apart =
    lt_of_not-le (λ (other : r ≤ l).
    let powers : r ^ n ≤ l ^ n = pow-le-pow_left other n in
    let gap : 2 ^ high < 2 ^ low = pow_below high low apart in
    omega arith)

-- a number whose power is at most that of another is not above it
pub not_above_by_powers : (n l r : ℕ) → 0 < n → l ^ n ≤ r ^ n → l ≤ r
not_above_by_powers n l r some powers =
    let under : l < suc r =
    lt_of_not-le (λ (above : suc r ≤ l).
    let some_power : n ≢ 0 = λ none. omega arith in
    let strict : r ^ n < l ^ n = pow-lt-pow_left {a = r} {b = l} above some_power in
    omega arith) in
    omega arith

-- numbers whose powers both are one power of two
pub same_by_powers : (n l r s : ℕ) → 0 < n → 2 ^ s ≤ l ^ n → l ^ n ≤ 2 ^ s → 2 ^ s ≤ r ^ n → r ^ n ≤ 2 ^ s → l ≡ r
same_by_powers n l r s some l_low l_high r_low r_high =
    let up : l ≤ r = not_above_by_powers n l r some (omega arith) in
    let down : r ≤ l = not_above_by_powers n r l some (omega arith) in
    omega arith

-- numbers whose powers lie between powers of two of nearly one exponent
pub near_by_powers :
    (n l r width l_low l_high r_low r_high : ℕ) → l ^ n ≤ 2 ^ l_high → 2 ^ r_low ≤ r ^ n →
    l_high ≤ l_low + width → l_low ≤ r_high → r_high ≤ r_low + width → l ^ n ≤ 2 ^ (2 * width) * r ^ n
near_by_powers n l r width l_low l_high r_low r_high l_above r_below l_width meet r_width =
    let exponents : l_high ≤ 2 * width + r_low = omega arith in
    let powers : 2 ^ l_high ≤ 2 ^ (2 * width + r_low) = pow_mono exponents in
    let parted : 2 ^ (2 * width + r_low) ≡ 2 ^ (2 * width) * 2 ^ r_low = pow-add 2 (2 * width) r_low in
    let scaled : 2 ^ (2 * width) * 2 ^ r_low ≤ 2 ^ (2 * width) * r ^ n = mul-le-mul_left (2 ^ (2 * width)) r_below in
    omega arith
