-- The ends of a factor's bracket.
use Rattle.std.proofs.Common.{◌≡◌, ℕ, zero, suc, ◌<◌, refl, sym, ap, ◌∙◌, arith}
use Rattle.log_bracket.specs.Bracket.{bracket_of}
use Rattle.wald_test.specs.Sums.{low_end, high_end}
use Rattle.wald_test.specs.Kept.{factor_of}

-- a number above 0 has a bracket
pub low_end-some : (x : ℕ) → 0 < x → low_end x ≡ (bracket_of x).0
unfolding low_end
low_end-some zero some = absurd (omega arith)
low_end-some (suc n) some = refl

pub high_end-some : (x : ℕ) → 0 < x → high_end x ≡ (bracket_of x).1
unfolding high_end
high_end-some zero some = absurd (omega arith)
high_end-some (suc n) some = refl

-- the number 0 has none
pub factor_of-zero : (x : ℕ) → x ≡ 0 → record { number = x; low = 0; high = 0 } ≡ factor_of x
unfolding low_end high_end
factor_of-zero zero none = refl
factor_of-zero (suc n) none = absurd (omega arith)

-- a number above 0 with the ends of its bracket
pub factor_of-some : (x low high : ℕ) → 0 < x → (low, high) ≡ bracket_of x → record { number = x; low = low; high = high } ≡ factor_of x
factor_of-some x low high some is =
    let low_is : low ≡ low_end x = ap (λ (ends : ℕ × ℕ). ends.0) is ∙ sym (low_end-some x some) in
    let high_is : high ≡ high_end x = ap (λ (ends : ℕ × ℕ). ends.1) is ∙ sym (high_end-some x some) in
    λ i. record { number = x; low = low_is i; high = high_is i }
