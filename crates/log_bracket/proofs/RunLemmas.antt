-- The two runs of squarings: the range of their numbers, and how they stay below and above the powers of a number.
use Rattle.std.proofs.Common.{◌≡◌, ℕ, zero, suc, Bool, true, false, ◌+◌, ◌-◌, ◌*◌, ◌/◌, ◌^◌, ◌<◌, ◌≤◌, nat_lt, nat_le, if◌then◌else◌, refl, sym, subst, lit<, lit≤, arith}
use Rattle.std.proofs.Math.Nat.{mul-le-mul_right, div-mul-le_self, lt-div-mul-add, two-pow-succ}
use Rattle.std.proofs.lemmas.Bool.{leb-true, leb-false, ltb-true, ltb-false}
use Rattle.log_bracket.specs.declared.scaled.Scaled.{Scaled}
use Rattle.log_bracket.specs.Scaled.{square_floor, square_ceil, squared_down, squared_up}
use Rattle.log_bracket.specs.Bracket.{lower_run, upper_run}
use Rattle.log_bracket.proofs.PowerLemmas.{pow-twice, two-pow-twice-one, pow-squared, pow-unsquared}
use Rattle.log_bracket.proofs.SquareLemmas.{IsBelow, IsAbove, below-squared, above-squared, below-halved, above-halved}

-- a number from 1 up to but not including 2
pub record InRange (s : Scaled) : Type 0 where
  pub least : 2 ^ 62 ≤ s.mantissa
  pub most : s.mantissa < 2 ^ 63

-- a number from 1 to 2
pub record InRangeAbove (s : Scaled) : Type 0 where
  pub least : 2 ^ 62 ≤ s.mantissa
  pub most : s.mantissa ≤ 2 ^ 63

-- a number of a run stays below the value
abbrev pub StaysBelow : ℕ → ℕ → Scaled → Type 0
StaysBelow value parts s = IsBelow (2 ^ 62) value parts (2 ^ s.exponent) s.mantissa

-- a number of a run stays above the value
abbrev pub StaysAbove : ℕ → ℕ → Scaled → Type 0
StaysAbove value parts s = IsAbove (2 ^ 62) value parts (2 ^ s.exponent) s.mantissa

-- by how many parts of a unit a run may have strayed after so many squarings
pub slack : ℕ → ℕ
slack zero = 0
slack (suc n) = 2 * slack n + 2

-- after 48 squarings that is little
pub slack_is_small : 4 * slack 48 ≤ 2 ^ 62
unfolding slack
slack_is_small = lit≤ tt

-- the number that a squaring leaves, from the rounded square of the mantissa
abbrev pub halved_down : Bool → ℕ → ℕ → Scaled
halved_down test exponent square =
    if test then record { exponent = 2 * exponent + 1; mantissa = square / 2 }
    else record { exponent = 2 * exponent; mantissa = square }

-- the same for the upper run
abbrev pub halved_up : Bool → ℕ → ℕ → Scaled
halved_up test exponent square =
    if test then record { exponent = 2 * exponent + 1; mantissa = (square + 1) / 2 }
    else record { exponent = 2 * exponent; mantissa = square }

-- ---- one squaring of the lower run

-- what rounding down says
floor_under : (m : ℕ) → square_floor m * 2 ^ 62 ≤ m * m
floor_under m = div-mul-le_self (m * m) (2 ^ 62)

floor_over : (m : ℕ) → m * m < square_floor m * 2 ^ 62 + 2 ^ 62
floor_over m = lt-div-mul-add (lit< tt)

-- a squaring keeps the range
down_keeps_range :
    (n m q : ℕ) (test : Bool) → nat_le (2 ^ 63) q ≡ test → q * 2 ^ 62 ≤ m * m → m * m < q * 2 ^ 62 + 2 ^ 62 →
    2 ^ 62 ≤ m → m < 2 ^ 63 → InRange (halved_down test n q)
down_keeps_range n m q true is under over least most =
    let large : 2 ^ 63 ≤ q = leb-true (2 ^ 63) q is in
    let within : m * m ≤ 2 ^ 63 * m = mul-le-mul_right m (omega arith) in
    record { least = omega arith; most = omega arith }
down_keeps_range n m q false is under over least most =
    let small : q < 2 ^ 63 = leb-false (2 ^ 63) q is in
    let within : 2 ^ 62 * m ≤ m * m = mul-le-mul_right m least in
    record { least = omega arith; most = omega arith }

-- a squaring stays below
down_stays :
    (value parts n m q : ℕ) (test : Bool) → q * 2 ^ 62 ≤ m * m → m * m < q * 2 ^ 62 + 2 ^ 62 → 2 ^ 62 ≤ m →
    IsBelow (2 ^ 62) value parts (2 ^ n) m → StaysBelow (value * value) (2 * parts + 2) (halved_down test n q)
down_stays value parts n m q true under over least is =
    let half : ℕ = q / 2 in
    let doubled :
    IsBelow (2 ^ 62) (value * value) (2 * parts + 2) (2 ^ n * 2 ^ n) (2 * half) =
    below-squared (2 ^ 62) value parts (2 ^ n) m (2 * half) (lit< tt) least (omega arith) (omega arith) is in
    let P : ℕ → Type 0 = λ p. IsBelow (2 ^ 62) (value * value) (2 * parts + 2) p half in
    subst P (sym (two-pow-twice-one n)) (below-halved (2 ^ 62) (value * value) (2 * parts + 2) (2 ^ n * 2 ^ n) half doubled)
down_stays value parts n m q false under over least is =
    let P : ℕ → Type 0 = λ p. IsBelow (2 ^ 62) (value * value) (2 * parts + 2) p q in
    subst P (sym (pow-twice 2 n))
    (below-squared (2 ^ 62) value parts (2 ^ n) m q (lit< tt) least under (omega arith) is)

-- ---- one squaring of the upper run

-- what rounding up says
ceil_over : (m : ℕ) → m * m ≤ square_ceil m * 2 ^ 62
ceil_over m =
    let next : m * m + (2 ^ 62 - 1) < square_ceil m * 2 ^ 62 + 2 ^ 62 = lt-div-mul-add (lit< tt) in
    omega arith

ceil_under : (m : ℕ) → square_ceil m * 2 ^ 62 < m * m + 2 ^ 62
ceil_under m =
    let within : square_ceil m * 2 ^ 62 ≤ m * m + (2 ^ 62 - 1) = div-mul-le_self (m * m + (2 ^ 62 - 1)) (2 ^ 62) in
    omega arith

-- the rounded square of a mantissa is a unit at least
ceil_least : (m q : ℕ) → m * m ≤ q * 2 ^ 62 → 2 ^ 62 ≤ m → 2 ^ 62 ≤ q
ceil_least m q over least =
    let within : 2 ^ 62 * m ≤ m * m = mul-le-mul_right m least in
    omega arith

-- a squaring keeps the range
up_keeps_range :
    (n m q : ℕ) (test : Bool) → nat_lt (2 ^ 63) q ≡ test → m * m ≤ q * 2 ^ 62 → q * 2 ^ 62 < m * m + 2 ^ 62 →
    2 ^ 62 ≤ m → m ≤ 2 ^ 63 → InRangeAbove (halved_up test n q)
up_keeps_range n m q true is over under least most =
    let large : 2 ^ 63 < q = ltb-true (2 ^ 63) q is in
    let within : m * m ≤ 2 ^ 63 * m = mul-le-mul_right m most in
    record { least = omega arith; most = omega arith }
up_keeps_range n m q false is over under least most =
    let small : q ≤ 2 ^ 63 = ltb-false (2 ^ 63) q is in
    record { least = ceil_least m q over least; most = small }

-- a squaring stays above
up_stays :
    (value parts n m q : ℕ) (test : Bool) → m * m ≤ q * 2 ^ 62 → q * 2 ^ 62 < m * m + 2 ^ 62 → 2 ^ 62 ≤ m →
    IsAbove (2 ^ 62) value parts (2 ^ n) m → StaysAbove (value * value) (2 * parts + 2) (halved_up test n q)
up_stays value parts n m q true over under least is =
    let half : ℕ = (q + 1) / 2 in
    let unit_at_least : 2 ^ 62 ≤ q = ceil_least m q over least in
    let doubled :
    IsAbove (2 ^ 62) (value * value) (2 * parts + 2) (2 ^ n * 2 ^ n) (2 * half) =
    above-squared (2 ^ 62) value parts (2 ^ n) m (2 * half) (lit< tt) (omega arith) (omega arith) (omega arith) is in
    let P : ℕ → Type 0 = λ p. IsAbove (2 ^ 62) (value * value) (2 * parts + 2) p half in
    subst P (sym (two-pow-twice-one n)) (above-halved (2 ^ 62) (value * value) (2 * parts + 2) (2 ^ n * 2 ^ n) half doubled)
up_stays value parts n m q false over under least is =
    let P : ℕ → Type 0 = λ p. IsAbove (2 ^ 62) (value * value) (2 * parts + 2) p q in
    subst P (sym (pow-twice 2 n))
    (above-squared (2 ^ 62) value parts (2 ^ n) m q (lit< tt) (ceil_least m q over least) over (omega arith) is)

-- ---- whole runs

-- the lower run keeps the range
pub lower_run_in_range : (n : ℕ) (s : Scaled) → InRange s → InRange (lower_run n s)
unfolding lower_run
lower_run_in_range zero s is = is
lower_run_in_range (suc n) s is =
    let before : InRange (lower_run n s) = lower_run_in_range n s is in
    let m : ℕ = (lower_run n s).mantissa in
    down_keeps_range (lower_run n s).exponent m (square_floor m) (nat_le (2 ^ 63) (square_floor m)) refl
    (floor_under m) (floor_over m) before.least before.most

-- the upper run keeps the range
pub upper_run_in_range : (n : ℕ) (s : Scaled) → InRangeAbove s → InRangeAbove (upper_run n s)
unfolding upper_run
upper_run_in_range zero s is = is
upper_run_in_range (suc n) s is =
    let before : InRangeAbove (upper_run n s) = upper_run_in_range n s is in
    let m : ℕ = (upper_run n s).mantissa in
    up_keeps_range (upper_run n s).exponent m (square_ceil m) (nat_lt (2 ^ 63) (square_ceil m)) refl
    (ceil_over m) (ceil_under m) before.least before.most

-- a squaring at most doubles the exponent and adds 1
halved_down_exponent : (test : Bool) (n q : ℕ) → (halved_down test n q).exponent ≤ 2 * n + 1
halved_down_exponent true n q = omega arith
halved_down_exponent false n q = omega arith

halved_up_exponent : (test : Bool) (n q : ℕ) → (halved_up test n q).exponent ≤ 2 * n + 1
halved_up_exponent true n q = omega arith
halved_up_exponent false n q = omega arith

-- how large the exponents of the lower run get
pub lower_run_exponent : (n : ℕ) (s : Scaled) → s.exponent < 62 → (lower_run n s).exponent + 1 ≤ 62 * 2 ^ n
unfolding lower_run
lower_run_exponent zero s small = omega arith
lower_run_exponent (suc n) s small =
    let before : (lower_run n s).exponent + 1 ≤ 62 * 2 ^ n = lower_run_exponent n s small in
    let q : ℕ = square_floor (lower_run n s).mantissa in
    let step : (halved_down (nat_le (2 ^ 63) q) (lower_run n s).exponent q).exponent ≤ 2 * (lower_run n s).exponent + 1 =
    halved_down_exponent (nat_le (2 ^ 63) q) (lower_run n s).exponent q in
    let doubled : 2 ^ suc n ≡ 2 ^ n + 2 ^ n = two-pow-succ n in
    omega arith

-- how large the exponents of the upper run get
pub upper_run_exponent : (n : ℕ) (s : Scaled) → s.exponent < 62 → (upper_run n s).exponent + 1 ≤ 62 * 2 ^ n
unfolding upper_run
upper_run_exponent zero s small = omega arith
upper_run_exponent (suc n) s small =
    let before : (upper_run n s).exponent + 1 ≤ 62 * 2 ^ n = upper_run_exponent n s small in
    let q : ℕ = square_ceil (upper_run n s).mantissa in
    let step : (halved_up (nat_lt (2 ^ 63) q) (upper_run n s).exponent q).exponent ≤ 2 * (upper_run n s).exponent + 1 =
    halved_up_exponent (nat_lt (2 ^ 63) q) (upper_run n s).exponent q in
    let doubled : 2 ^ suc n ≡ 2 ^ n + 2 ^ n = two-pow-succ n in
    omega arith

-- the lower run stays below the powers of a number that it starts below
pub lower_run_stays :
    (x n : ℕ) (s : Scaled) → InRange s → StaysBelow x 0 s → StaysBelow (x ^ (2 ^ n)) (slack n) (lower_run n s)
unfolding lower_run slack
lower_run_stays x zero s range is =
    let P : ℕ → Type 0 = λ value. StaysBelow value 0 s in
    subst P (sym (pow-unsquared x)) is
lower_run_stays x (suc n) s range is =
    let before : StaysBelow (x ^ (2 ^ n)) (slack n) (lower_run n s) = lower_run_stays x n s range is in
    let within : InRange (lower_run n s) = lower_run_in_range n s range in
    let m : ℕ = (lower_run n s).mantissa in
    let P : ℕ → Type 0 = λ value. StaysBelow value (2 * slack n + 2) (squared_down (lower_run n s)) in
    subst P (sym (pow-squared x n))
    (down_stays (x ^ (2 ^ n)) (slack n) (lower_run n s).exponent m (square_floor m) (nat_le (2 ^ 63) (square_floor m))
    (floor_under m) (floor_over m) within.least before)

-- the upper run stays above the powers of a number that it starts above
pub upper_run_stays :
    (x n : ℕ) (s : Scaled) → InRangeAbove s → StaysAbove x 0 s → StaysAbove (x ^ (2 ^ n)) (slack n) (upper_run n s)
unfolding upper_run slack
upper_run_stays x zero s range is =
    let P : ℕ → Type 0 = λ value. StaysAbove value 0 s in
    subst P (sym (pow-unsquared x)) is
upper_run_stays x (suc n) s range is =
    let before : StaysAbove (x ^ (2 ^ n)) (slack n) (upper_run n s) = upper_run_stays x n s range is in
    let within : InRangeAbove (upper_run n s) = upper_run_in_range n s range in
    let m : ℕ = (upper_run n s).mantissa in
    let P : ℕ → Type 0 = λ value. StaysAbove value (2 * slack n + 2) (squared_up (upper_run n s)) in
    subst P (sym (pow-squared x n))
    (up_stays (x ^ (2 ^ n)) (slack n) (upper_run n s).exponent m (square_ceil m) (nat_lt (2 ^ 63) (square_ceil m))
    (ceil_over m) (ceil_under m) within.least before)
