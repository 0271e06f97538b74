-- What a plain test says of a state.
use Rattle.std.specs.Prelude.{ℕ, ℤ, pos, Bool, not, ◌&&◌, int_le, int_lt, slice_get, unwrap_or}
use Rattle.std.specs.Ordering.{int_eq}
use Rattle.chain_model.specs.Chain.{IsWithinLimits}
use Rattle.chain_model.specs.States.{State}
use Rattle.guard_code.specs.declared.plain_tests.Test.{Test}
use Rattle.guard_code.specs.declared.plain_tests.Test.TheVariants as t

-- the value of a variable, by its number
abbrev pub number_in : State → ℕ → ℤ
number_in state v = unwrap_or (slice_get state v) (pos 0)

-- the values of a state are all within the limits of numbers, as those of a chain's state are
abbrev pub IsSmall : State → Type 0
IsSmall state = (v : ℕ) → IsWithinLimits (number_in state v)

-- whether a test holds
abbrev pub test_holds : State → Test → Bool
test_holds state (t.Within v lo hi) = int_le lo (number_in state v) && int_le (number_in state v) hi
test_holds state (t.Other v c) = not (int_eq (number_in state v) c)
test_holds state (t.Same v w) = int_eq (number_in state v) (number_in state w)
test_holds state (t.Different v w) = not (int_eq (number_in state v) (number_in state w))
test_holds state (t.Below v w) = int_lt (number_in state v) (number_in state w)
test_holds state (t.AtMost v w) = not (int_lt (number_in state w) (number_in state v))
