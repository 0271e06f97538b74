-- The two boundaries lie apart.
use Rattle.std.proofs.Common.{ℕ, zero, suc, ◌+◌, ◌-◌, ◌*◌, ◌^◌, ◌<◌, ◌≤◌, arith}
use Rattle.std.proofs.Math.Nat.{mul-lt-mul_of_pos_right, lt_of_mul-lt-mul_left}
use Rattle.wald_test.specs.SequentialTest.{SequentialTest}
use Rattle.wald_test.specs.Side.{number_of, CrossesAccept, CrossesReject, HasSide}

-- a likelihood with the greater factor, at most another with the lesser, is the lesser one unless it is 0
lesser : (x y more less : ℕ) → less < more → x * more ≤ y * less → 0 < x → x < y
lesser x y more less greater within some =
    let strict : less * x < more * x = mul-lt-mul_of_pos_right greater some in
    let products : less * x < less * y = omega arith in
    lt_of_mul-lt-mul_left less products

-- two likelihoods that cross both boundaries are 0
both_zero :
    (lower upper alpha beta parts : ℕ) → alpha + beta < parts →
    lower * (parts - alpha) ≤ upper * beta → upper * (parts - beta) ≤ lower * alpha → 0 < lower + upper → ⊥
both_zero zero zero alpha beta parts small accept reject some = omega arith
both_zero zero (suc upper) alpha beta parts small accept reject some =
    let under : suc upper < 0 = lesser (suc upper) 0 (parts - beta) alpha (omega arith) reject (omega arith) in omega arith
both_zero (suc lower) zero alpha beta parts small accept reject some =
    let under : suc lower < 0 = lesser (suc lower) 0 (parts - alpha) beta (omega arith) accept (omega arith) in omega arith
both_zero (suc lower) (suc upper) alpha beta parts small accept reject some =
    let under : suc lower < suc upper = lesser (suc lower) (suc upper) (parts - alpha) beta (omega arith) accept (omega arith) in
    let over : suc upper < suc lower = lesser (suc upper) (suc lower) (parts - beta) alpha (omega arith) reject (omega arith) in
    omega arith

-- where not all sides are 0 one of the likelihoods is not
some_likelihood :
    (lower upper a b c d : ℕ) → 0 < lower * a + upper * b + (lower * c + upper * d) → 0 < lower + upper
some_likelihood zero zero a b c d some = omega arith
some_likelihood zero (suc upper) a b c d some = omega arith
some_likelihood (suc lower) upper a b c d some = omega arith

pub boundaries_apart :
    (t : SequentialTest) (d f : ℕ) → t.alpha + t.beta < t.error_parts → HasSide t d f → CrossesAccept t d f → CrossesReject t d f → ⊥
unfolding number_of
boundaries_apart t d f small some accept reject =
    let lower : ℕ = t.lower ^ d * (t.parts - t.lower) ^ f in
    let upper : ℕ = t.upper ^ d * (t.parts - t.upper) ^ f in
    both_zero lower upper t.alpha t.beta t.error_parts small accept reject
    (some_likelihood lower upper (t.error_parts - t.alpha) t.beta t.alpha (t.error_parts - t.beta) some)
