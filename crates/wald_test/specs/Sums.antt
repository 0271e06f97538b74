-- What is known of the logarithm of a side: a lower and an upper sum of its factors' brackets.
use Rattle.std.specs.Prelude.{ℕ, zero, suc, ◌+◌, ◌*◌}
use Rattle.log_bracket.specs.Bracket.{bracket_of}
use Rattle.wald_test.specs.Side.{Side}

-- the lower end of a factor's bracket; a factor that is 0 has none, and adds nothing
unfoldable pub low_end : ℕ → ℕ
low_end zero = 0
low_end (suc n) = (bracket_of (suc n)).0

-- the upper end of a factor's bracket
unfoldable pub high_end : ℕ → ℕ
high_end zero = 0
high_end (suc n) = (bracket_of (suc n)).1

-- the lower sum of a side that is not 0: the lower ends of its factors' brackets, each times the factor's exponent
unfoldable pub lower_sum : Side → ℕ → ℕ → ℕ
lower_sum side d f = d * low_end side.success + f * low_end side.failure + low_end side.once

-- its upper sum
unfoldable pub upper_sum : Side → ℕ → ℕ → ℕ
upper_sum side d f = d * high_end side.success + f * high_end side.failure + high_end side.once
