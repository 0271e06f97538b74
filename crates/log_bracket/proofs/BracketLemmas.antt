-- The bracket: that its ends hold, that they are at most 2 apart, and that they meet at a power of two.
use Rattle.std.proofs.Common.{◌≡◌, ℕ, zero, suc, Bool, true, false, ◌+◌, ◌*◌, ◌^◌, ◌<◌, ◌≤◌, ◌==◌, if◌then◌else◌, refl, sym, ap, ◌∙◌, lit<, arith}
use Rattle.std.proofs.Math.Nat.{mul-le-mul_left, two-pow-succ}
use Rattle.std.proofs.Math.Pow.{pow_pos}
use Rattle.std.proofs.lemmas.Nat.{pow-add}
use Rattle.std.proofs.lemmas.Bool.{eqb-true}
use Rattle.log_bracket.specs.declared.scaled.Scaled.{Scaled}
use Rattle.log_bracket.specs.Scaled.{scaled, squared_down, squared_up}
use Rattle.log_bracket.specs.Bracket.{lower_run, upper_run, top_exponent, bracket_of, IsPowerOfTwo}
use Rattle.log_bracket.proofs.PowerLemmas.{exponents_ordered}
use Rattle.log_bracket.proofs.SquareLemmas.{powers_near}
use Rattle.log_bracket.proofs.RunLemmas.{InRange, InRangeAbove, StaysBelow, StaysAbove, slack, slack_is_small, lower_run_in_range, upper_run_in_range, lower_run_stays, upper_run_stays}
use Rattle.log_bracket.proofs.StartLemmas.{scaled_in_range, scaled_stays_below, scaled_stays_above, scaled_power}

-- a number of the lower run is at least its power of two
low_end : (value parts : ℕ) (s : Scaled) → InRange s → StaysBelow value parts s → 2 ^ s.exponent ≤ value
low_end value parts s range is =
    let stays : 2 ^ s.exponent * s.mantissa ≤ value * 2 ^ 62 = is.below in
    let least : 2 ^ s.exponent * 2 ^ 62 ≤ 2 ^ s.exponent * s.mantissa = mul-le-mul_left (2 ^ s.exponent) range.least in
    omega arith

-- a number with a mantissa up to 2 is at most the power of two of its top exponent
high_end_case :
    (value exponent mantissa : ℕ) (test : Bool) → (mantissa == 2 ^ 62) ≡ test → mantissa ≤ 2 ^ 63 →
    value * 2 ^ 62 ≤ 2 ^ exponent * mantissa → value ≤ 2 ^ (if test then exponent else exponent + 1)
high_end_case value exponent mantissa true is most stays =
    let unit : mantissa ≡ 2 ^ 62 = eqb-true mantissa (2 ^ 62) is in
    let along : 2 ^ exponent * mantissa ≡ 2 ^ exponent * 2 ^ 62 = ap (λ (m : ℕ). 2 ^ exponent * m) unit in
    omega arith
high_end_case value exponent mantissa false is most stays =
    let within : 2 ^ exponent * mantissa ≤ 2 ^ exponent * 2 ^ 63 = mul-le-mul_left (2 ^ exponent) most in
    let doubled : 2 ^ suc exponent ≡ 2 ^ exponent + 2 ^ exponent = two-pow-succ exponent in
    let next : exponent + 1 ≡ suc exponent = omega arith in
    let along : 2 ^ (exponent + 1) ≡ 2 ^ suc exponent = ap (λ (e : ℕ). 2 ^ e) next in
    omega arith

high_end : (value parts : ℕ) (s : Scaled) → InRangeAbove s → StaysAbove value parts s → value ≤ 2 ^ top_exponent s
high_end value parts s range is =
    high_end_case value s.exponent s.mantissa (s.mantissa == 2 ^ 62) refl range.most is.above

-- the top exponent is the exponent or the next
top_exponent_near : (test : Bool) (exponent : ℕ) → (if test then exponent else exponent + 1) ≤ exponent + 1
top_exponent_near true exponent = omega arith
top_exponent_near false exponent = omega arith

-- two numbers that stay near one value have exponents that are near
ends_near :
    (value parts : ℕ) (low high : Scaled) → 4 * parts ≤ 2 ^ 62 → InRange low → InRangeAbove high →
    StaysBelow value parts low → StaysAbove value parts high → top_exponent high ≤ low.exponent + 2
ends_near value parts low high few low_range high_range is_below is_above =
    let powers : 2 ^ high.exponent < 4 * 2 ^ low.exponent =
    powers_near (2 ^ 62) value parts (2 ^ low.exponent) low.mantissa (2 ^ high.exponent) high.mantissa
    (lit< tt) few (pow_pos low.exponent) low_range.most high_range.least is_below is_above in
    let twice : 2 ^ (low.exponent + 2) ≡ 2 ^ low.exponent * 2 ^ 2 = pow-add 2 low.exponent 2 in
    let exponents : high.exponent < low.exponent + 2 = exponents_ordered high.exponent (low.exponent + 2) (omega arith) in
    let top : top_exponent high ≤ high.exponent + 1 = top_exponent_near (high.mantissa == 2 ^ 62) high.exponent in
    omega arith

-- ---- the bracket of a number

-- a number from 1 up to but not including 2 is one from 1 to 2
wider : (s : Scaled) → InRange s → InRangeAbove s
wider s range = record { least = range.least; most = omega (arith, range.most) }

-- two to the lower end is at most the power
pub bracket_low : (x : ℕ) → 1 ≤ x → x < 2 ^ 62 → 2 ^ (bracket_of x).0 ≤ x ^ (2 ^ 48)
unfolding bracket_of
bracket_low x positive small =
    let range : InRange (scaled x) = scaled_in_range x positive small in
    low_end (x ^ (2 ^ 48)) (slack 48) (lower_run 48 (scaled x)) (lower_run_in_range 48 (scaled x) range)
    (lower_run_stays x 48 (scaled x) range (scaled_stays_below x positive small))

-- two to the upper end is at least the power
pub bracket_high : (x : ℕ) → 1 ≤ x → x < 2 ^ 62 → x ^ (2 ^ 48) ≤ 2 ^ (bracket_of x).1
unfolding bracket_of
bracket_high x positive small =
    let range : InRangeAbove (scaled x) = wider (scaled x) (scaled_in_range x positive small) in
    high_end (x ^ (2 ^ 48)) (slack 48) (upper_run 48 (scaled x)) (upper_run_in_range 48 (scaled x) range)
    (upper_run_stays x 48 (scaled x) range (scaled_stays_above x positive small))

-- the ends are at most 2 apart
pub bracket_width : (x : ℕ) → 1 ≤ x → x < 2 ^ 62 → (bracket_of x).1 ≤ (bracket_of x).0 + 2
unfolding bracket_of
bracket_width x positive small =
    let range : InRange (scaled x) = scaled_in_range x positive small in
    let range_above : InRangeAbove (scaled x) = wider (scaled x) range in
    ends_near (x ^ (2 ^ 48)) (slack 48) (lower_run 48 (scaled x)) (upper_run 48 (scaled x)) slack_is_small
    (lower_run_in_range 48 (scaled x) range) (upper_run_in_range 48 (scaled x) range_above)
    (lower_run_stays x 48 (scaled x) range (scaled_stays_below x positive small))
    (upper_run_stays x 48 (scaled x) range_above (scaled_stays_above x positive small))

-- ---- powers of two

-- one more squaring of a power of two
next_exponent : (n k : ℕ) → 2 * (2 ^ n * k) ≡ 2 ^ suc n * k
next_exponent n k =
    let doubled : 2 ^ suc n ≡ 2 ^ n + 2 ^ n = two-pow-succ n in
    let along : 2 ^ suc n * k ≡ (2 ^ n + 2 ^ n) * k = ap (λ (p : ℕ). p * k) doubled in
    omega arith

-- a power of two stays one in both runs
pub lower_run-power :
    (n k : ℕ) → lower_run n (record { exponent = k; mantissa = 2 ^ 62 }) ≡ record { exponent = 2 ^ n * k; mantissa = 2 ^ 62 }
unfolding lower_run
lower_run-power zero k = let same : k ≡ 2 ^ 0 * k = omega arith in λ i. record { exponent = same i; mantissa = 2 ^ 62 }
lower_run-power (suc n) k =
    ap squared_down (lower_run-power n k) ∙ (λ i. record { exponent = next_exponent n k i; mantissa = 2 ^ 62 })

pub upper_run-power :
    (n k : ℕ) → upper_run n (record { exponent = k; mantissa = 2 ^ 62 }) ≡ record { exponent = 2 ^ n * k; mantissa = 2 ^ 62 }
unfolding upper_run
upper_run-power zero k = let same : k ≡ 2 ^ 0 * k = omega arith in λ i. record { exponent = same i; mantissa = 2 ^ 62 }
upper_run-power (suc n) k =
    ap squared_up (upper_run-power n k) ∙ (λ i. record { exponent = next_exponent n k i; mantissa = 2 ^ 62 })

-- the ends meet at a power of two
pub bracket_exact : (x : ℕ) → x < 2 ^ 62 → IsPowerOfTwo x → (bracket_of x).0 ≡ (bracket_of x).1
unfolding bracket_of
bracket_exact x small (k, power) =
    let start : scaled x ≡ record { exponent = k; mantissa = 2 ^ 62 } = scaled_power k x power small in
    let low : (lower_run 48 (scaled x)).exponent ≡ 2 ^ 48 * k =
    ap (λ (s : Scaled). (lower_run 48 s).exponent) start ∙ ap (λ (s : Scaled). s.exponent) (lower_run-power 48 k) in
    let high : top_exponent (upper_run 48 (scaled x)) ≡ 2 ^ 48 * k =
    ap (λ (s : Scaled). top_exponent (upper_run 48 s)) start ∙ ap top_exponent (upper_run-power 48 k) in
    low ∙ sym high
