-- The order of fractions, and whole numbers about them.
use Rattle.std.proofs.Common.{◌≡◌, ℕ, ◌<◌, ℤ, pos, negsuc, ◌+ℤ◌, ◌*ℤ◌, ◌<ℤ◌, ◌↔◌, int_cmp, Ordering, Less, Equal, Greater, refl, sym, ◌∙◌, ap, ap₂, arith, mod-lt, div-add-mod'}
use Rattle.std.specs.Int.{int_div_euclid, int_rem_euclid}
use Rattle.std.specs.Ordering.{MatchOrdering}
use Rattle.std.specs.Cmp.{int_ranks}
use Rattle.std.proofs.lemmas.Int.{ints}
use Rattle.smc_num.specs.Fraction.{Fraction, IsFrac}
use Rattle.smc_num.specs.Arithmetic.{compare_of}
use Rattle.smc_num.proofs.LowestLemmas.{same_fraction}

-- two numbers compare equal exactly where they are
pub int_cmp-Equal : (x y : ℤ) → (int_cmp x y ≡ Equal) ↔ (x ≡ y)
int_cmp-Equal x y = by_ranks (int_cmp x y) x y (int_ranks x y)
  where
    by_ranks : (o : Ordering) (x y : ℤ) → MatchOrdering o (x <ℤ y) (x ≡ y) (y <ℤ x) → (o ≡ Equal) ↔ (x ≡ y)
    by_ranks Less x y h = (λ e. cc, λ e. absurd (omega (arith, ints, h)))
    by_ranks Equal x y h = (λ e. h, λ e. refl)
    by_ranks Greater x y h = (λ e. cc, λ e. absurd (omega (arith, ints, h)))

-- two fractions compare equal exactly where they are
pub compare_of-Equal : (a b : Fraction) → IsFrac a → IsFrac b → (compare_of a b ≡ Equal) ↔ (a ≡ b)
unfolding compare_of
compare_of-Equal a b a_is b_is =
    let values = int_cmp-Equal (a.num *ℤ pos b.den) (b.num *ℤ pos a.den) in
    (λ e. same_fraction a b a_is b_is (values.0 e), λ e. values.1 (ap₂ (λ x y. x.num *ℤ pos y.den) e (sym e)))

-- a number is its quotient times the divisor and the remainder
pub quotient_and_rest : (i : ℤ) (n : ℕ) → 0 < n → i ≡ int_div_euclid i (pos n) *ℤ pos n +ℤ int_rem_euclid i (pos n)
quotient_and_rest (pos a) n some = ap pos (sym (div-add-mod' a n))
quotient_and_rest (negsuc a) n some = omega (arith, ints, div-add-mod' a n, mod-lt a some)

pub multiple_of : (i n rest : ℤ) → pos 0 <ℤ n → rest ≡ int_rem_euclid i n → (q : ℤ) × (i ≡ q *ℤ n +ℤ rest)
multiple_of i (pos n) rest some is =
    (int_div_euclid i (pos n), quotient_and_rest i n (omega (arith, ints, some)) ∙ ap (λ z. int_div_euclid i (pos n) *ℤ pos n +ℤ z) (sym is))
multiple_of i (negsuc n) rest some is = absurd (omega (arith, ints, some))
