-- How the two runs of squarings stay below and above a power, over plain numbers: `unit` is the mantissa of 1,
-- `power` the power of two of the exponent, and `value` the whole number that is approached.
use Rattle.std.proofs.Common.{◌≡◌, ℕ, ◌+◌, ◌-◌, ◌*◌, ◌<◌, ◌≤◌, sym, subst, arith}
use Rattle.std.proofs.Math.Nat.{mul-le-mul, mul-le-mul_left, mul-le-mul_right, le_of_mul-le-mul_right}

-- a number is at most the value, and short of it by so many parts of a unit at most
pub record IsBelow (unit value parts power mantissa : ℕ) : Type 0 where
  pub below : power * mantissa ≤ value * unit
  pub near : value * unit ≤ power * mantissa + parts * value

-- a number is at least the value, and past it by so many parts of a unit at most
pub record IsAbove (unit value parts power mantissa : ℕ) : Type 0 where
  pub above : value * unit ≤ power * mantissa
  pub near : power * mantissa * unit ≤ value * unit * unit + parts * (power * mantissa)

-- how far a square can be above the square of a lower number
square_over : (low gap : ℕ) → (low + gap) * (low + gap) ≤ low * low + 2 * (gap * (low + gap))
square_over low gap = omega arith

-- a squaring that rounds the mantissa down by less than two units stays near
below_stays_near :
    (unit value parts power mantissa square gap : ℕ) → 0 < unit → unit ≤ mantissa →
    mantissa * mantissa ≤ (square + 2) * unit → power * mantissa ≤ value * unit →
    value * unit ≡ power * mantissa + gap → gap ≤ parts * value →
    (value * value) * unit ≤ (power * power) * square + (2 * parts + 2) * (value * value)
below_stays_near unit value parts power mantissa square gap positive least ceiling stays parted small =
    let P : ℕ → Type 0 = λ n. n * n ≤ (power * mantissa) * (power * mantissa) + 2 * (gap * n) in
    let over : (value * unit) * (value * unit) ≤ (power * mantissa) * (power * mantissa) + 2 * (gap * (value * unit)) =
    subst P (sym parted) (square_over (power * mantissa) gap) in
    let gap_scaled : gap * (value * unit) ≤ (parts * value) * (value * unit) = mul-le-mul_right (value * unit) small in
    let rounded : (power * power) * (mantissa * mantissa) ≤ (power * power) * ((square + 2) * unit) =
    mul-le-mul_left (power * power) ceiling in
    let unit_below : power * unit ≤ power * mantissa = mul-le-mul_left power least in
    let unit_under : power * unit ≤ value * unit = omega arith in
    let power_below : power ≤ value = le_of_mul-le-mul_right unit_under positive in
    let square_below : power * power ≤ value * value = mul-le-mul power_below power_below in
    let square_scaled : (power * power) * unit ≤ (value * value) * unit = mul-le-mul_right unit square_below in
    let by_unit :
    ((value * value) * unit) * unit ≤ ((power * power) * square + (2 * parts + 2) * (value * value)) * unit =
    omega arith in
    le_of_mul-le-mul_right by_unit positive

-- a squaring that rounds the mantissa down by at most two units stays below the value's square, and near it
pub below-squared :
    (unit value parts power mantissa square : ℕ) → 0 < unit → unit ≤ mantissa →
    square * unit ≤ mantissa * mantissa → mantissa * mantissa ≤ (square + 2) * unit →
    IsBelow unit value parts power mantissa →
    IsBelow unit (value * value) (2 * parts + 2) (power * power) square
below-squared unit value parts power mantissa square positive least floor ceiling is =
    let stays : power * mantissa ≤ value * unit = is.below in
    let close : value * unit ≤ power * mantissa + parts * value = is.near in
    let squared : (power * mantissa) * (power * mantissa) ≤ (value * unit) * (value * unit) = mul-le-mul stays stays in
    let rounded : (power * power) * (square * unit) ≤ (power * power) * (mantissa * mantissa) =
    mul-le-mul_left (power * power) floor in
    let by_unit : ((power * power) * square) * unit ≤ ((value * value) * unit) * unit = omega arith in
    record {
      below = le_of_mul-le-mul_right by_unit positive;
      near =
          below_stays_near unit value parts power mantissa square (value * unit - power * mantissa) positive least ceiling stays
          (omega arith) (omega arith);
    }

-- a squaring that rounds the mantissa up by at most two units stays near
above_stays_near :
    (unit value parts power mantissa square gap : ℕ) → 0 < unit → unit ≤ square →
    mantissa * mantissa ≤ square * unit → square * unit ≤ mantissa * mantissa + 2 * unit →
    power * mantissa ≡ value * unit + gap → gap * unit ≤ parts * (power * mantissa) →
    (power * power) * square * unit ≤ (value * value) * unit * unit + (2 * parts + 2) * ((power * power) * square)
above_stays_near unit value parts power mantissa square gap positive least floor ceiling parted small =
    let P : ℕ → Type 0 = λ n. n * n ≤ (value * unit) * (value * unit) + 2 * (gap * n) in
    let over : (power * mantissa) * (power * mantissa) ≤ (value * unit) * (value * unit) + 2 * (gap * (power * mantissa)) =
    subst P (sym parted) (square_over (value * unit) gap) in
    let over_scaled :
    ((power * mantissa) * (power * mantissa)) * unit
    ≤ ((value * unit) * (value * unit) + 2 * (gap * (power * mantissa))) * unit =
    mul-le-mul_right unit over in
    let gap_scaled : (gap * unit) * (power * mantissa) ≤ (parts * (power * mantissa)) * (power * mantissa) =
    mul-le-mul_right (power * mantissa) small in
    let floor_scaled : (power * power) * (mantissa * mantissa) ≤ (power * power) * (square * unit) =
    mul-le-mul_left (power * power) floor in
    let parts_scaled :
    parts * ((power * power) * (mantissa * mantissa)) ≤ parts * ((power * power) * (square * unit)) =
    mul-le-mul_left parts floor_scaled in
    let ceiling_scaled :
    ((power * power) * unit) * (square * unit) ≤ ((power * power) * unit) * (mantissa * mantissa + 2 * unit) =
    mul-le-mul_left ((power * power) * unit) ceiling in
    let least_scaled : ((power * power) * unit) * unit ≤ ((power * power) * unit) * square =
    mul-le-mul_left ((power * power) * unit) least in
    let by_unit :
    ((power * power) * square * unit) * unit
    ≤ ((value * value) * unit * unit + (2 * parts + 2) * ((power * power) * square)) * unit =
    omega arith in
    le_of_mul-le-mul_right by_unit positive

-- a squaring that rounds the mantissa up by at most two units stays above the value's square, and near it
pub above-squared :
    (unit value parts power mantissa square : ℕ) → 0 < unit → unit ≤ square →
    mantissa * mantissa ≤ square * unit → square * unit ≤ mantissa * mantissa + 2 * unit →
    IsAbove unit value parts power mantissa →
    IsAbove unit (value * value) (2 * parts + 2) (power * power) square
above-squared unit value parts power mantissa square positive least floor ceiling is =
    let stays : value * unit ≤ power * mantissa = is.above in
    let close : power * mantissa * unit ≤ value * unit * unit + parts * (power * mantissa) = is.near in
    let squared : (value * unit) * (value * unit) ≤ (power * mantissa) * (power * mantissa) = mul-le-mul stays stays in
    let rounded : (power * power) * (mantissa * mantissa) ≤ (power * power) * (square * unit) =
    mul-le-mul_left (power * power) floor in
    let by_unit : ((value * value) * unit) * unit ≤ ((power * power) * square) * unit = omega arith in
    let gap : ℕ = power * mantissa - value * unit in
    let parted : power * mantissa ≡ value * unit + gap = omega arith in
    let P : ℕ → Type 0 = λ n. n * unit ≤ value * unit * unit + parts * (power * mantissa) in
    record {
      above = le_of_mul-le-mul_right by_unit positive;
      near =
          above_stays_near unit value parts power mantissa square gap positive least floor ceiling parted
          (gap_scaled unit (value * unit) gap (parts * (power * mantissa)) (subst P parted close));
    }
  where
    gap_scaled : (unit low gap rest : ℕ) → (low + gap) * unit ≤ low * unit + rest → gap * unit ≤ rest
    gap_scaled unit low gap rest sum = omega arith

-- half a mantissa with twice the power of two is the same number
pub below-halved :
    (unit value parts power half : ℕ) → IsBelow unit value parts power (2 * half) → IsBelow unit value parts (2 * power) half
below-halved unit value parts power half is =
    let stays : power * (2 * half) ≤ value * unit = is.below in
    let close : value * unit ≤ power * (2 * half) + parts * value = is.near in
    record { below = omega arith; near = omega arith }

-- half a mantissa with twice the power of two is the same number
pub above-halved :
    (unit value parts power half : ℕ) → IsAbove unit value parts power (2 * half) → IsAbove unit value parts (2 * power) half
above-halved unit value parts power half is =
    let stays : value * unit ≤ power * (2 * half) = is.above in
    let close : power * (2 * half) * unit ≤ value * unit * unit + parts * (power * (2 * half)) = is.near in
    record { above = omega arith; near = omega arith }

-- at a small distance the power of two above is less than four times that below
pub powers_near :
    (unit value parts low_power low high_power high : ℕ) → 0 < unit → 4 * parts ≤ unit →
    0 < low_power → low < 2 * unit → unit ≤ high →
    IsBelow unit value parts low_power low → IsAbove unit value parts high_power high →
    high_power < 4 * low_power
powers_near unit value parts low_power low high_power high positive few some under least is_below is_above =
    let low_near : value * unit ≤ low_power * low + parts * value = is_below.near in
    let high_near : high_power * high * unit ≤ value * unit * unit + parts * (high_power * high) = is_above.near in
    let low_parts : value * (4 * parts) ≤ value * unit = mul-le-mul_left value few in
    let high_parts : (high_power * high) * (4 * parts) ≤ (high_power * high) * unit = mul-le-mul_left (high_power * high) few in
    let high_by_unit : (3 * (high_power * high)) * unit ≤ (4 * (value * unit)) * unit = omega arith in
    let high_under : 3 * (high_power * high) ≤ 4 * (value * unit) = le_of_mul-le-mul_right high_by_unit positive in
    let low_over : 3 * (value * unit) ≤ 4 * (low_power * low) = omega arith in
    let high_least : high_power * unit ≤ high_power * high = mul-le-mul_left high_power least in
    let low_most : low_power * low ≤ low_power * (2 * unit) = mul-le-mul_left low_power (omega arith) in
    let by_unit : (9 * high_power) * unit ≤ (32 * low_power) * unit = omega arith in
    let powers : 9 * high_power ≤ 32 * low_power = le_of_mul-le-mul_right by_unit positive in
    omega arith
