-- Two numbers whose powers lie between powers of two: what their sums tell of their order.
use Rattle.std.proofs.Common.{◌≡◌, ℕ, zero, suc, ◌^◌, ◌<◌, ◌≤◌, ◌==◌, Bool, true, false, cond, not, ◌&&◌, nat_lt, nat_le, refl, sym, ap, ◌∙◌, subst, arith, lit<, Option, Some, None, nat_cmp, Ordering, Less, Equal, Greater}
use Rattle.std.proofs.lemmas.Bool.{and_parts, ltb-true, eqb-true}
use Rattle.std.proofs.Math.Bool.{and-false}
use Rattle.std.proofs.lemmas.Bool.Decides.{nat_tests}
use Rattle.wald_test.specs.declared.sums.Sums.{Sums}
use Rattle.wald_test.specs.Kept.{compared}
use Rattle.wald_test.proofs.PowerLemmas.{less_by_powers, same_by_powers}

-- ---- tests on numbers

pub cmp_less : (x y : ℕ) → x < y → nat_cmp x y ≡ Less
cmp_less x y h = grind (arith, nat_tests)

pub cmp_same : (x y : ℕ) → x ≡ y → nat_cmp x y ≡ Equal
cmp_same x y h = grind (arith, nat_tests)

pub cmp_greater : (x y : ℕ) → y < x → nat_cmp x y ≡ Greater
cmp_greater x y h = grind (arith, nat_tests)

pub nat_le-not : (x y : ℕ) → nat_le x y ≡ not (nat_lt y x)
nat_le-not x y = grind (arith, nat_tests)

-- ---- numbers that may be 0

-- the sums of a number, if it is not 0
pub given : ℕ → ℕ → ℕ → Option Sums
given zero low high = None
given (suc x) low high = Some (record { low = low; high = high })

pub given-none : (x low high : ℕ) → x ≡ 0 → given x low high ≡ None
unfolding given
given-none zero low high none = refl
given-none (suc x) low high none = absurd (omega arith)

pub given-some : (x low high : ℕ) → 0 < x → given x low high ≡ Some (record { low = low; high = high })
unfolding given
given-some zero low high some = absurd (omega arith)
given-some (suc x) low high some = refl

-- the sums of a number enclose 2^48 times its logarithm, if it is not 0
pub record Encloses (x low high : ℕ) : Type 0 where
  pub below : 0 < x → 2 ^ low ≤ x ^ (2 ^ 48)
  pub above : 0 < x → x ^ (2 ^ 48) ≤ 2 ^ high

-- the sums are one number
abbrev pub are_one : ℕ → ℕ → ℕ → ℕ → Bool
are_one x_low x_high y_low y_high = x_low == x_high && (y_low == y_high && x_low == y_low)

-- two numbers lie too close for their sums
abbrev pub overlap : ℕ → ℕ → ℕ → ℕ → ℕ → ℕ → Bool
overlap x x_low x_high y y_low y_high =
    nat_lt 0 x && (nat_lt 0 y && (nat_le x_low y_high && (nat_le y_low x_high && not (are_one x_low x_high y_low y_high))))

-- the comparison of two numbers, unless they lie too close
abbrev pub order_unless : Bool → ℕ → ℕ → Option Ordering
order_unless close x y = cond close None (Some (nat_cmp x y))

-- the three tests decide as the order of the numbers does
by_tests :
    (x y : ℕ) (above below one : Bool) → (above ≡ true → x < y) → (below ≡ true → y < x) → (one ≡ true → x ≡ y) →
    cond above (Some Less) (cond below (Some Greater) (cond one (Some Equal) None))
    ≡ order_unless (not below && (not above && not one)) x y
by_tests x y true true one is_less is_greater is_same = ap Some (sym (cmp_less x y (is_less refl)))
by_tests x y true false one is_less is_greater is_same = ap Some (sym (cmp_less x y (is_less refl)))
by_tests x y false true one is_less is_greater is_same = ap Some (sym (cmp_greater x y (is_greater refl)))
by_tests x y false false true is_less is_greater is_same = ap Some (sym (cmp_same x y (is_same refl)))
by_tests x y false false false is_less is_greater is_same = refl

-- numbers whose sums are one number are the same
same_where_one :
    (x x_low x_high y y_low y_high : ℕ) → 0 < x → 0 < y → Encloses x x_low x_high → Encloses y y_low y_high →
    are_one x_low x_high y_low y_high ≡ true → x ≡ y
same_where_one x x_low x_high y y_low y_high x_some y_some x_is y_is one =
    let outer = and_parts (x_low == x_high) (y_low == y_high && x_low == y_low) one in
    let inner = and_parts (y_low == y_high) (x_low == y_low) outer.1 in
    let x_one : x_low ≡ x_high = eqb-true x_low x_high outer.0 in
    let y_one : y_low ≡ y_high = eqb-true y_low y_high inner.0 in
    let both : x_low ≡ y_low = eqb-true x_low y_low inner.1 in
    same_by_powers (2 ^ 48) x y x_low (lit< tt) (x_is.below x_some)
    (subst (λ (e : ℕ). x ^ (2 ^ 48) ≤ 2 ^ e) (sym x_one) (x_is.above x_some))
    (subst (λ (e : ℕ). 2 ^ e ≤ y ^ (2 ^ 48)) (sym both) (y_is.below y_some))
    (subst (λ (e : ℕ). y ^ (2 ^ 48) ≤ 2 ^ e) (sym (both ∙ y_one)) (y_is.above y_some))

-- two numbers that are not 0
compared_some :
    (x x_low x_high y y_low y_high : ℕ) → 0 < x → 0 < y → Encloses x x_low x_high → Encloses y y_low y_high →
    compared (Some (record { low = x_low; high = x_high })) (Some (record { low = y_low; high = y_high }))
    ≡ order_unless (overlap x x_low x_high y y_low y_high) x y
compared_some x x_low x_high y y_low y_high x_some y_some x_is y_is =
    let tests = by_tests x y (nat_lt x_high y_low) (nat_lt y_high x_low) (are_one x_low x_high y_low y_high)
    (λ above. less_by_powers (2 ^ 48) x y x_high y_low (x_is.above x_some) (y_is.below y_some) (ltb-true x_high y_low above))
    (λ below. less_by_powers (2 ^ 48) y x y_high x_low (y_is.above y_some) (x_is.below x_some) (ltb-true y_high x_low below))
    (λ one. same_where_one x x_low x_high y y_low y_high x_some y_some x_is y_is one) in
    let x_true : nat_lt 0 x ≡ true = grind (arith, nat_tests) in
    let y_true : nat_lt 0 y ≡ true = grind (arith, nat_tests) in
    let first : nat_le x_low y_high ≡ not (nat_lt y_high x_low) = nat_le-not x_low y_high in
    let second : nat_le y_low x_high ≡ not (nat_lt x_high y_low) = nat_le-not y_low x_high in
    tests ∙ sym (ap (λ (b : Bool). order_unless (b && (nat_lt 0 y && (nat_le x_low y_high && (nat_le y_low x_high && not (are_one x_low x_high y_low y_high))))) x y) x_true
    ∙ ap (λ (b : Bool). order_unless (b && (nat_le x_low y_high && (nat_le y_low x_high && not (are_one x_low x_high y_low y_high)))) x y) y_true
    ∙ ap (λ (b : Bool). order_unless (b && (nat_le y_low x_high && not (are_one x_low x_high y_low y_high))) x y) first
    ∙ ap (λ (b : Bool). order_unless (not (nat_lt y_high x_low) && (b && not (are_one x_low x_high y_low y_high))) x y) second)

-- numbers of which one is 0 are not too close
not_close_left : (x x_low x_high y y_low y_high : ℕ) → x ≡ 0 → overlap x x_low x_high y y_low y_high ≡ false
not_close_left x x_low x_high y y_low y_high none =
    let x_false : nat_lt 0 x ≡ false = grind (arith, nat_tests) in
    ap (λ (b : Bool). b && (nat_lt 0 y && (nat_le x_low y_high && (nat_le y_low x_high && not (are_one x_low x_high y_low y_high))))) x_false

not_close_right : (x x_low x_high y y_low y_high : ℕ) → y ≡ 0 → overlap x x_low x_high y y_low y_high ≡ false
not_close_right x x_low x_high y y_low y_high none =
    let y_false : nat_lt 0 y ≡ false = grind (arith, nat_tests) in
    ap (λ (b : Bool). nat_lt 0 x && (b && (nat_le x_low y_high && (nat_le y_low x_high && not (are_one x_low x_high y_low y_high))))) y_false
    ∙ and-false (nat_lt 0 x)

-- two numbers compare by their sums as they do, unless they lie too close
pub compared-given :
    (x x_low x_high y y_low y_high : ℕ) → Encloses x x_low x_high → Encloses y y_low y_high →
    compared (given x x_low x_high) (given y y_low y_high) ≡ order_unless (overlap x x_low x_high y y_low y_high) x y
unfolding given
compared-given zero x_low x_high zero y_low y_high x_is y_is =
    ap Some (sym (cmp_same 0 0 refl)) ∙ sym (ap (λ (b : Bool). order_unless b 0 0) (not_close_left 0 x_low x_high 0 y_low y_high refl))
compared-given zero x_low x_high (suc y) y_low y_high x_is y_is =
    ap Some (sym (cmp_less 0 (suc y) (omega arith))) ∙ sym (ap (λ (b : Bool). order_unless b 0 (suc y)) (not_close_left 0 x_low x_high (suc y) y_low y_high refl))
compared-given (suc x) x_low x_high zero y_low y_high x_is y_is =
    ap Some (sym (cmp_greater (suc x) 0 (omega arith))) ∙ sym (ap (λ (b : Bool). order_unless b (suc x) 0) (not_close_right (suc x) x_low x_high 0 y_low y_high refl))
compared-given (suc x) x_low x_high (suc y) y_low y_high x_is y_is =
    compared_some (suc x) x_low x_high (suc y) y_low y_high (omega arith) (omega arith) x_is y_is
