use Rattle.std.proofs.Common.{◌≡◌, ◌/◌, ◌*ℤ◌, pos, sym, ◌∙◌, ap, ap₂, subst₂, arith, SFits, to_z-of_z}
use Rattle.std.specs.Int.{w128}
use Rattle.smc_num.specs.Arithmetic.{common_of, within_all}
use Rattle.smc_num.proofs.GcdLemmas.{gcd_some}
use Rattle.smc_num.proofs.SignedLemmas.{passed}
use Rattle.smc_num.proofs.CommonLemmas.{common_by, common_same}
use Rattle.smc_num.proofs.fraction.denominators.common.Goals as goal

pub returns-then-a-b-clause-value : goal.returns-then-a-b-clause-value
returns-then-a-b-clause-value c =
    let left_fits : SFits w128 c.from.result = record { sfits = c.from.type_inv } in
    let right_fits : SFits w128 c.from-then-a-b.result = record { sfits = c.from-then-a-b.type_inv } in
    let limited : c.limited.result ≡ within_all c.from.result c.from-then-a-b.result c.from-then-a-b-2.result = simp to_z-of_z at c.limited.ensures in
    subst₂ (λ a b. c.limited.result ≡ common_of a b) c.a.view_is c.b.view_is
    (limited ∙ ap₂ (λ x y. within_all x y c.from-then-a-b-2.result) (c.from.ensures ∙ passed c.a.inside.num c.a.invariant.num_small) (c.from-then-a-b.ensures ∙ passed c.b.inside.num c.b.invariant.num_small)
    ∙ ap (λ d. within_all c.a.inside.num c.b.inside.num d) c.from-then-a-b-2.ensures
    ∙ sym (common_same (record { num = c.a.inside.num; den = c.a.inside.den }) (record { num = c.b.inside.num; den = c.b.inside.den }) c.a.invariant.den_some c.if-a-b.true))

pub nonzero_div-left : goal.nonzero_div-left
nonzero_div-left c = gcd_some _ _ _ c.gcd-shared.ensures.greatest (omega (arith, c.a.invariant.den_some))

pub nonzero_div-right : goal.nonzero_div-right
nonzero_div-right c = gcd_some _ _ _ c.gcd-shared.ensures.greatest (omega (arith, c.a.invariant.den_some))

pub returns-clause-value : goal.returns-clause-value
returns-clause-value c =
    let left_fits : SFits w128 c.scaled.result = record { sfits = c.scaled.type_inv } in
    let right_fits : SFits w128 c.scaled-2.result = record { sfits = c.scaled-2.type_inv } in
    let a_passed = passed c.a.inside.num c.a.invariant.num_small in
    let b_passed = passed c.b.inside.num c.b.invariant.num_small in
    let limited : c.limited-2.result ≡ within_all c.scaled.result c.scaled-2.result c.product_of_sizes-den.result = simp to_z-of_z at c.limited-2.ensures in
    subst₂ (λ a b. c.limited-2.result ≡ common_of a b) c.a.view_is c.b.view_is
    (limited ∙ sym (common_by (record { num = c.a.inside.num; den = c.a.inside.den }) (record { num = c.b.inside.num; den = c.b.inside.den }) c.gcd-shared.result _ _ _
    c.a.invariant.den_some c.b.invariant.den_some c.gcd-shared.ensures.greatest
    (c.scaled.ensures.value ∙ ap (λ z. z *ℤ pos (c.b.inside.den / c.gcd-shared.result)) a_passed)
    (c.scaled-2.ensures.value ∙ ap (λ z. z *ℤ pos (c.a.inside.den / c.gcd-shared.result)) b_passed) c.product_of_sizes-den.ensures))
