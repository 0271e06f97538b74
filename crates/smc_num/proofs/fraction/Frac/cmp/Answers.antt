use Rattle.std.proofs.Common.{◌≡◌, Equal, ◌↔◌, sym, ◌∙◌, subst, subst₂, to_z-of_z, int_cmp, SFits, pos, ◌*ℤ◌, ap, ap₂}
use Rattle.std.specs.Int.{w128}
use Rattle.smc_num.specs.Fraction.{Fraction}
use Rattle.smc_num.specs.Arithmetic.{compare_of}
use Rattle.smc_num.proofs.SignedLemmas.{passed}
use Rattle.smc_num.proofs.OrderLemmas.{compare_of-Equal}
use Rattle.smc_num.proofs.fraction.Frac.cmp.Goals as goal

pub returns-clause-equal : goal.returns-clause-equal
unfolding compare_of
returns-clause-equal c =
    let a : Fraction = record { num = c.a.inside.num; den = c.a.inside.den } in
    let b : Fraction = record { num = c.b.inside.num; den = c.b.inside.den } in
    let a_passed = passed c.a.inside.num c.a.invariant.num_small in
    let b_passed = passed c.b.inside.num c.b.invariant.num_small in
    let left_fits : SFits w128 c.scaled.result = record { sfits = c.scaled.type_inv } in
    let right_fits : SFits w128 c.scaled-2.result = record { sfits = c.scaled-2.type_inv } in
    let value : c.cmp.result ≡ compare_of a b =
    (simp to_z-of_z at c.cmp.ensures) ∙ ap₂ int_cmp (c.scaled.ensures.value ∙ ap (λ z. z *ℤ pos c.b.inside.den) a_passed) (c.scaled-2.ensures.value ∙ ap (λ z. z *ℤ pos c.a.inside.den) b_passed) in
    subst₂ (λ x y. (c.cmp.result ≡ Equal) ↔ (x ≡ y)) c.a.view_is c.b.view_is
    (subst (λ o. (o ≡ Equal) ↔ (a ≡ b)) (sym value) (compare_of-Equal a b c.a.invariant c.b.invariant))
