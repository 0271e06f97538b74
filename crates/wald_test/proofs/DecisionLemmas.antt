-- The class by sums is the class by the sides' numbers, and a close class is near a boundary.
use Rattle.std.proofs.Common.{◌≡◌, ℕ, zero, suc, ◌+◌, ◌-◌, ◌*◌, ◌^◌, ◌<◌, ◌≤◌, ◌==◌, ◌⊎◌, inl, inr, Bool, true, false, cond, ◌||◌, nat_lt, nat_le, refl, sym, ap, ap₂, ◌∙◌, subst, arith, Some, None, nat_cmp, Ordering, Less, Equal, Greater}
use Rattle.std.specs.Ordering.{MatchOrdering}
use Rattle.std.specs.Cmp.{ranks}
use Rattle.std.proofs.Math.Nat.{pow-zero, pow-suc, zero-mul, mul-zero, mul-pos, one-le-pow}
use Rattle.std.proofs.lemmas.Bool.{and_parts, ltb-true, leb-true, eqb-true}
use Rattle.std.proofs.lemmas.Bool.Decides.{nat_tests}
use Rattle.sampling_plan.specs.declared.class.Class.{Class}
use Rattle.sampling_plan.specs.declared.class.Class.TheVariants.{Accept, Reject, Close, Go}
use Rattle.wald_test.specs.SequentialTest.{SequentialTest, IsTest}
use Rattle.wald_test.specs.Side.{Side, number_of, accept_left, accept_right, reject_left, reject_right}
use Rattle.wald_test.specs.Sums.{low_end, high_end, lower_sum, upper_sum}
use Rattle.wald_test.specs.Decision.{have_one_sum, lie_close, is_close, class_of, IsNear, IsNearBoundary}
use Rattle.wald_test.specs.Kept.{factor_of, likelihood_at, is_zero, sums_at, with_factor, compared, decided}
use Rattle.wald_test.proofs.PowerLemmas.{near_by_powers}
use Rattle.wald_test.proofs.SideLemmas.{IsSide, side_low, side_high, side_width}
use Rattle.wald_test.proofs.ComparisonLemmas.{given, given-none, given-some, Encloses, order_unless, compared-given}

-- ---- the sums of a side, as the code adds them

zero_is : (x k : ℕ) → is_zero x k ≡ true → x ^ k ≡ 0
zero_is x zero is = absurd (omega (arith, ltb-true 0 0 (and_parts (x == 0) (nat_lt 0 0) is).1))
zero_is x (suc k) is =
    let none : x ≡ 0 = eqb-true x 0 (and_parts (x == 0) (nat_lt 0 (suc k)) is).0 in
    pow-suc x k ∙ ap (λ (p : ℕ). x ^ k * p) none ∙ mul-zero (x ^ k)

zero_is_not : (x k : ℕ) → is_zero x k ≡ false → 0 < x ^ k
zero_is_not x zero is = let one : x ^ 0 ≡ 1 = pow-zero x in omega arith
zero_is_not x (suc k) is =
    let some : 0 < x = grind (arith, nat_tests) in
    one-le-pow (suc k) x some

-- the product is 0 where one of its powers is
both_tests :
    (x y z d f low high : ℕ) (first second : Bool) → is_zero x d ≡ first → is_zero y f ≡ second → 0 < z →
    cond (first || second) None (Some (record { low = low; high = high })) ≡ given (x ^ d * y ^ f * z) low high
both_tests x y z d f low high true second is_first is_second some =
    let none : x ^ d * y ^ f * z ≡ 0 =
    ap (λ (p : ℕ). p * y ^ f * z) (zero_is x d is_first) ∙ ap (λ (p : ℕ). p * z) (zero-mul (y ^ f)) ∙ zero-mul z in
    sym (given-none (x ^ d * y ^ f * z) low high none)
both_tests x y z d f low high false true is_first is_second some =
    let none : x ^ d * y ^ f * z ≡ 0 =
    ap (λ (p : ℕ). x ^ d * p * z) (zero_is y f is_second) ∙ ap (λ (p : ℕ). p * z) (mul-zero (x ^ d)) ∙ zero-mul z in
    sym (given-none (x ^ d * y ^ f * z) low high none)
both_tests x y z d f low high false false is_first is_second some =
    sym (given-some (x ^ d * y ^ f * z) low high (mul-pos (mul-pos (zero_is_not x d is_first) (zero_is_not y f is_second)) some))

-- a choice of sums, with one factor more
with_factor-cond :
    (none : Bool) (low high z : ℕ) →
    with_factor (cond none None (Some (record { low = low; high = high }))) (factor_of z)
    ≡ cond none None (Some (record { low = low + low_end z; high = high + high_end z }))
with_factor-cond true low high z = refl
with_factor-cond false low high z = refl

-- what the code adds for a side is its two sums, or nothing where its number is 0
pub side_sums :
    (x n z d f : ℕ) → 0 < z →
    let side : Side = record { success = x; failure = n - x; once = z } in
    with_factor (sums_at (likelihood_at x n) d f) (factor_of z)
    ≡ given (number_of side d f) (lower_sum side d f) (upper_sum side d f)
unfolding number_of lower_sum upper_sum
side_sums x n z d f some =
    with_factor-cond (is_zero x d || is_zero (n - x) f)
    (d * low_end x + f * low_end (n - x)) (d * high_end x + f * high_end (n - x)) z
    ∙ both_tests x (n - x) z d f
    (d * low_end x + f * low_end (n - x) + low_end z) (d * high_end x + f * high_end (n - x) + high_end z)
    (is_zero x d) (is_zero (n - x) f) refl refl some

-- ---- one boundary

encloses : (s : Side) (d f : ℕ) → IsSide s → Encloses (number_of s d f) (lower_sum s d f) (upper_sum s d f)
encloses s d f is = record { below = side_low s d f is; above = side_high s d f is }

-- two sides compare by their sums as their numbers do, unless they lie too close
pub sides_compared :
    (left right : Side) (d f : ℕ) → IsSide left → IsSide right →
    compared (given (number_of left d f) (lower_sum left d f) (upper_sum left d f))
    (given (number_of right d f) (lower_sum right d f) (upper_sum right d f))
    ≡ order_unless (lie_close left right d f) (number_of left d f) (number_of right d f)
unfolding lie_close have_one_sum
sides_compared left right d f left_is right_is =
    compared-given (number_of left d f) (lower_sum left d f) (upper_sum left d f)
    (number_of right d f) (lower_sum right d f) (upper_sum right d f) (encloses left d f left_is) (encloses right d f right_is)

-- ---- both boundaries

-- with each boundary's order known
by_orders :
    (x y z w : ℕ) (accept reject : Ordering) → MatchOrdering accept (x < y) (x ≡ y) (y < x) → MatchOrdering reject (z < w) (z ≡ w) (w < z) →
    decided (Some accept) (Some reject) ≡ cond (nat_le x y) Accept (cond (nat_le w z) Reject Go)
by_orders x y z w Less reject accept_is reject_is = let yes : nat_le x y ≡ true = grind (arith, nat_tests) in sym (ap (λ (b : Bool). cond b Accept (cond (nat_le w z) Reject Go)) yes)
by_orders x y z w Equal reject accept_is reject_is = let yes : nat_le x y ≡ true = grind (arith, nat_tests) in sym (ap (λ (b : Bool). cond b Accept (cond (nat_le w z) Reject Go)) yes)
by_orders x y z w Greater Less accept_is reject_is =
    let crossed : nat_le x y ≡ false = grind (arith, nat_tests) in
    let other : nat_le w z ≡ false = grind (arith, nat_tests) in
    sym (ap (λ (b : Bool). cond b Accept (cond (nat_le w z) Reject Go)) crossed ∙ ap (λ (b : Bool). cond b Reject Go) other)
by_orders x y z w Greater Equal accept_is reject_is =
    let crossed : nat_le x y ≡ false = grind (arith, nat_tests) in
    let other : nat_le w z ≡ true = grind (arith, nat_tests) in
    sym (ap (λ (b : Bool). cond b Accept (cond (nat_le w z) Reject Go)) crossed ∙ ap (λ (b : Bool). cond b Reject Go) other)
by_orders x y z w Greater Greater accept_is reject_is =
    let crossed : nat_le x y ≡ false = grind (arith, nat_tests) in
    let other : nat_le w z ≡ true = grind (arith, nat_tests) in
    sym (ap (λ (b : Bool). cond b Accept (cond (nat_le w z) Reject Go)) crossed ∙ ap (λ (b : Bool). cond b Reject Go) other)

-- unless one of them is too close
by_closeness :
    (x y z w : ℕ) (accept reject : Bool) →
    decided (order_unless accept x y) (order_unless reject z w)
    ≡ cond (accept || reject) Close (cond (nat_le x y) Accept (cond (nat_le w z) Reject Go))
by_closeness x y z w true reject = refl
by_closeness x y z w false true = refl
by_closeness x y z w false false = by_orders x y z w (nat_cmp x y) (nat_cmp z w) (ranks x y) (ranks z w)

-- the sides of a test have brackets
pub accept_left-IsSide : (t : SequentialTest) → IsTest t → IsSide (accept_left t)
accept_left-IsSide t is = record {
  success_small = omega arith;
  failure_small = omega arith;
  once_small = omega arith;
  once_some = omega arith;
}

pub accept_right-IsSide : (t : SequentialTest) → IsTest t → IsSide (accept_right t)
accept_right-IsSide t is = record {
  success_small = omega arith;
  failure_small = omega arith;
  once_small = omega arith;
  once_some = omega arith;
}

pub reject_left-IsSide : (t : SequentialTest) → IsTest t → IsSide (reject_left t)
reject_left-IsSide t is = record {
  success_small = omega arith;
  failure_small = omega arith;
  once_small = omega arith;
  once_some = omega arith;
}

pub reject_right-IsSide : (t : SequentialTest) → IsTest t → IsSide (reject_right t)
reject_right-IsSide t is = record {
  success_small = omega arith;
  failure_small = omega arith;
  once_small = omega arith;
  once_some = omega arith;
}

-- what the code decides, from the brackets that it keeps
unfoldable pub decided_by_sums : SequentialTest → ℕ → ℕ → Class
decided_by_sums t d f =
    let lower = sums_at (likelihood_at t.lower t.parts) d f in
    let upper = sums_at (likelihood_at t.upper t.parts) d f in
    decided (compared (with_factor lower (factor_of (t.error_parts - t.alpha))) (with_factor upper (factor_of t.beta)))
    (compared (with_factor lower (factor_of t.alpha)) (with_factor upper (factor_of (t.error_parts - t.beta))))

-- the class by sums is the class
pub decided_by_sums-class_of : (t : SequentialTest) (d f : ℕ) → IsTest t → decided_by_sums t d f ≡ class_of t d f
unfolding decided_by_sums class_of is_close
decided_by_sums-class_of t d f is =
    let accept_first = side_sums t.lower t.parts (t.error_parts - t.alpha) d f (omega arith) in
    let accept_second = side_sums t.upper t.parts t.beta d f (omega arith) in
    let reject_first = side_sums t.lower t.parts t.alpha d f (omega arith) in
    let reject_second = side_sums t.upper t.parts (t.error_parts - t.beta) d f (omega arith) in
    ap₂ decided
    (ap₂ compared accept_first accept_second
    ∙ sides_compared (accept_left t) (accept_right t) d f (accept_left-IsSide t is) (accept_right-IsSide t is))
    (ap₂ compared reject_first reject_second
    ∙ sides_compared (reject_left t) (reject_right t) d f (reject_left-IsSide t is) (reject_right-IsSide t is))
    ∙ by_closeness (number_of (accept_left t) d f) (number_of (accept_right t) d f) (number_of (reject_left t) d f) (number_of (reject_right t) d f)
    (lie_close (accept_left t) (accept_right t) d f) (lie_close (reject_left t) (reject_right t) d f)

-- ---- near

-- sides that lie close are near each other
near_where_close : (left right : Side) (d f : ℕ) → IsSide left → IsSide right → lie_close left right d f ≡ true → IsNear left right d f
unfolding lie_close
near_where_close left right d f left_is right_is close =
    let first = and_parts _ _ close in
    let second = and_parts _ _ first.1 in
    let third = and_parts _ _ second.1 in
    let fourth = and_parts _ _ third.1 in
    let left_some : 0 < number_of left d f = ltb-true _ _ first.0 in
    let right_some : 0 < number_of right d f = ltb-true _ _ second.0 in
    let meet : lower_sum left d f ≤ upper_sum right d f = leb-true _ _ third.0 in
    let meet_back : lower_sum right d f ≤ upper_sum left d f = leb-true _ _ fourth.0 in
    let left_width : upper_sum left d f ≤ lower_sum left d f + 2 * (d + f + 1) = side_width left d f left_is left_some in
    let right_width : upper_sum right d f ≤ lower_sum right d f + 2 * (d + f + 1) = side_width right d f right_is right_some in
    let twice : 2 * (2 * (d + f + 1)) ≡ 4 * (d + f + 1) = omega arith in
    record {
      left_near = subst (λ (e : ℕ). number_of left d f ^ (2 ^ 48) ≤ 2 ^ e * number_of right d f ^ (2 ^ 48)) twice
          (near_by_powers (2 ^ 48) (number_of left d f) (number_of right d f) (2 * (d + f + 1))
          (lower_sum left d f) (upper_sum left d f) (lower_sum right d f) (upper_sum right d f)
          (side_high left d f left_is left_some) (side_low right d f right_is right_some) left_width meet right_width);
      right_near = subst (λ (e : ℕ). number_of right d f ^ (2 ^ 48) ≤ 2 ^ e * number_of left d f ^ (2 ^ 48)) twice
          (near_by_powers (2 ^ 48) (number_of right d f) (number_of left d f) (2 * (d + f + 1))
          (lower_sum right d f) (upper_sum right d f) (lower_sum left d f) (upper_sum left d f)
          (side_high right d f right_is right_some) (side_low left d f left_is left_some) right_width meet_back left_width);
    }

-- one of two tests passes
either : (a b : Bool) → (a || b) ≡ true → (a ≡ true) ⊎ (b ≡ true)
either true b is = inl refl
either false b is = inr is

-- close counts are near a boundary
pub is_close-near : (t : SequentialTest) (d f : ℕ) → IsTest t → is_close t d f ≡ true → IsNearBoundary t d f
unfolding is_close
is_close-near t d f is close =
    elim (either (lie_close (accept_left t) (accept_right t) d f) (lie_close (reject_left t) (reject_right t) d f) close)
    as (λ _. IsNearBoundary t d f) [
      | inl accept ↦ inl (near_where_close (accept_left t) (accept_right t) d f (accept_left-IsSide t is) (accept_right-IsSide t is) accept)
      | inr reject ↦ inr (near_where_close (reject_left t) (reject_right t) d f (reject_left-IsSide t is) (reject_right-IsSide t is) reject)
    ]
