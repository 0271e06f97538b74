-- Numbers kept as a power of two times a mantissa, and their squares. A mantissa counts in units of 2^-62.
use Rattle.std.specs.Prelude.{ℕ, ◌+◌, ◌-◌, ◌*◌, ◌/◌, ◌^◌, nat_lt, nat_le, if◌then◌else◌}
use Rattle.std.specs.Int.{w64, leading_zeros}
use Rattle.log_bracket.specs.declared.scaled.Scaled.{Scaled}

-- the whole part of a number's logarithm to base 2: the place of its highest binary digit
abbrev pub whole_log2 : ℕ → ℕ
whole_log2 x = 63 - leading_zeros w64 x

-- a whole number below 2^62, exactly
abbrev pub scaled : ℕ → Scaled
scaled x = record { exponent = whole_log2 x; mantissa = x * 2 ^ (62 - whole_log2 x) }

-- the square of a mantissa, rounded down
abbrev pub square_floor : ℕ → ℕ
square_floor mantissa = mantissa * mantissa / 2 ^ 62

-- the square of a mantissa, rounded up
abbrev pub square_ceil : ℕ → ℕ
square_ceil mantissa = (mantissa * mantissa + (2 ^ 62 - 1)) / 2 ^ 62

-- the square of a number, rounded down: from 2 on the mantissa is halved, and the exponent grows by 1
abbrev pub squared_down : Scaled → Scaled
squared_down s =
    if nat_le (2 ^ 63) (square_floor s.mantissa)
    then record { exponent = 2 * s.exponent + 1; mantissa = square_floor s.mantissa / 2 }
    else record { exponent = 2 * s.exponent; mantissa = square_floor s.mantissa }

-- the square of a number, rounded up: above 2 the mantissa is halved, and the exponent grows by 1
abbrev pub squared_up : Scaled → Scaled
squared_up s =
    if nat_lt (2 ^ 63) (square_ceil s.mantissa)
    then record { exponent = 2 * s.exponent + 1; mantissa = (square_ceil s.mantissa + 1) / 2 }
    else record { exponent = 2 * s.exponent; mantissa = square_ceil s.mantissa }
