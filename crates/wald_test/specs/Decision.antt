-- What the counts of successes and failures decide under a sequential probability ratio test.
use Rattle.std.specs.Prelude.{ℕ, ◌+◌, ◌*◌, ◌^◌, ◌≤◌, ◌==◌, ◌⊎◌, nat_lt, nat_le, Bool, IsTrue, not, ◌&&◌, ◌||◌, if◌then◌else◌}
use Rattle.sampling_plan.specs.declared.class.Class.{Class}
use Rattle.sampling_plan.specs.declared.class.Class.TheVariants.{Accept, Reject, Close, Go}
use Rattle.wald_test.specs.SequentialTest.{SequentialTest}
use Rattle.wald_test.specs.Side.{Side, number_of, accept_left, accept_right, reject_left, reject_right}
use Rattle.wald_test.specs.Sums.{lower_sum, upper_sum}

-- all four sums of two sides are one number
unfoldable pub have_one_sum : Side → Side → ℕ → ℕ → Bool
have_one_sum left right d f =
    lower_sum left d f == upper_sum left d f && (lower_sum right d f == upper_sum right d f && lower_sum left d f == lower_sum right d f)

-- two sides lie too close: both are above 0, neither's lower sum is above the other's upper sum, and the four sums are not all equal
unfoldable pub lie_close : Side → Side → ℕ → ℕ → Bool
lie_close left right d f =
    nat_lt 0 (number_of left d f) && (nat_lt 0 (number_of right d f)
    && (nat_le (lower_sum left d f) (upper_sum right d f) && (nat_le (lower_sum right d f) (upper_sum left d f)
    && not (have_one_sum left right d f))))

-- the sides lie too close at one of the two boundaries
unfoldable pub is_close : SequentialTest → ℕ → ℕ → Bool
is_close t d f = lie_close (accept_left t) (accept_right t) d f || lie_close (reject_left t) (reject_right t) d f

-- the counts are close
abbrev pub IsClose : SequentialTest → ℕ → ℕ → Type 0
IsClose t d f = IsTrue (is_close t d f)

-- the class of the counts: close, otherwise accepted or rejected where that boundary is crossed, otherwise open
unfoldable pub class_of : SequentialTest → ℕ → ℕ → Class
class_of t d f =
    if is_close t d f then Close
    else (if nat_le (number_of (accept_left t) d f) (number_of (accept_right t) d f) then Accept
    else (if nat_le (number_of (reject_right t) d f) (number_of (reject_left t) d f) then Reject else Go))

-- two sides are near each other: their ratio is at most 2^(4(d + f + 1) / 2^48), either way
pub record IsNear (left right : Side) (d f : ℕ) : Type 0 where
  pub left_near : number_of left d f ^ (2 ^ 48) ≤ 2 ^ (4 * (d + f + 1)) * number_of right d f ^ (2 ^ 48)
  pub right_near : number_of right d f ^ (2 ^ 48) ≤ 2 ^ (4 * (d + f + 1)) * number_of left d f ^ (2 ^ 48)

-- the sides are near each other at one of the two boundaries
abbrev pub IsNearBoundary : SequentialTest → ℕ → ℕ → Type 0
IsNearBoundary t d f = IsNear (accept_left t) (accept_right t) d f ⊎ IsNear (reject_left t) (reject_right t) d f
