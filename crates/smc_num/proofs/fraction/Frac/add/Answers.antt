use Rattle.std.proofs.Common.{◌≡◌, pos, ◌+ℤ◌, ◌*ℤ◌, ◌/◌, sym, ◌∙◌, ap, subst₂, w64, to_z, of_z, arith}
use Rattle.std.specs.Int.{w128}
use Rattle.std.proofs.lemmas.Int.{ints}
use Rattle.smc_num.specs.Arithmetic.{sum_of}
use Rattle.smc_num.proofs.GcdLemmas.{gcd_some}
use Rattle.smc_num.proofs.SignedLemmas.{passed}
use Rattle.smc_num.proofs.SumLemmas.{sum_steps, whole_steps}
use Rattle.smc_num.proofs.fraction.Frac.add.Goals as goal

pub returns-then-b-eq1-clause-value : goal.returns-then-b-eq1-clause-value
returns-then-b-eq1-clause-value c =
    let a_small = c.a.invariant.num_small in
    let b_small = c.b.invariant.num_small in
    let total : to_z w64 (of_z w64 (to_z w64 (of_z w64 c.a.inside.num) +ℤ to_z w64 (of_z w64 c.b.inside.num))) ≡ c.a.inside.num +ℤ c.b.inside.num = omega (arith, ints) in
    subst₂ (λ a b. c.from_parts.result ≡ sum_of a b) c.a.view_is c.b.view_is
    (whole_steps (record { num = c.a.inside.num; den = c.a.inside.den }) (record { num = c.b.inside.num; den = c.b.inside.den }) _ _ _ _
    c.if-a-eq1.true c.if-b-eq1.true total c.unsigned_abs.ensures.value c.from.ensures c.from_parts.ensures)

pub nonzero_div-left : goal.nonzero_div-left
nonzero_div-left c = gcd_some _ _ _ c.gcd-shared.ensures.greatest (omega (arith, c.a.invariant.den_some))

pub nonzero_div-right : goal.nonzero_div-right
nonzero_div-right c = gcd_some _ _ _ c.gcd-shared.ensures.greatest (omega (arith, c.a.invariant.den_some))

pub remainder-requires : goal.remainder-requires
remainder-requires c = gcd_some _ _ _ c.gcd-shared.ensures.greatest (omega (arith, c.a.invariant.den_some))

pub nonzero_div-b-inside : goal.nonzero_div-b-inside
nonzero_div-b-inside c =
    let shared_some = gcd_some _ _ _ c.gcd-shared.ensures.greatest (omega (arith, c.a.invariant.den_some)) in
    gcd_some _ _ _ c.gcd-rest.ensures.greatest (omega arith)

pub quotient-requires : goal.quotient-requires
quotient-requires c =
    let shared_some = gcd_some _ _ _ c.gcd-shared.ensures.greatest (omega (arith, c.a.invariant.den_some)) in
    gcd_some _ _ _ c.gcd-rest.ensures.greatest (omega arith)

pub from_parts-requires-2-clause-coprime : goal.from_parts-requires-2-clause-coprime
from_parts-requires-2-clause-coprime c =
    let a_passed = passed c.a.inside.num c.a.invariant.num_small in
    let b_passed = passed c.b.inside.num c.b.invariant.num_small in
    let total : to_z w128 (of_z w128 (to_z w128 (of_z w128 c.scaled.result) +ℤ to_z w128 (of_z w128 c.scaled-2.result))) ≡ c.scaled.result +ℤ c.scaled-2.result = omega (arith, ints) in
    let steps = sum_steps (record { num = c.a.inside.num; den = c.a.inside.den }) (record { num = c.b.inside.num; den = c.b.inside.den }) _ _ _ _ _ _ _ _ _ c.a.invariant c.b.invariant
    c.gcd-shared.ensures.greatest (c.scaled.ensures.value ∙ ap (λ z. z *ℤ pos (c.b.inside.den / c.gcd-shared.result)) a_passed)
    (c.scaled-2.ensures.value ∙ ap (λ z. z *ℤ pos (c.a.inside.den / c.gcd-shared.result)) b_passed) total c.unsigned_abs-size.ensures.value c.remainder.ensures c.gcd-rest.ensures.greatest c.quotient.ensures c.product_of_sizes-den.ensures in
    steps.coprime

pub from_parts-requires-2-clause-some : goal.from_parts-requires-2-clause-some
from_parts-requires-2-clause-some c =
    let a_passed = passed c.a.inside.num c.a.invariant.num_small in
    let b_passed = passed c.b.inside.num c.b.invariant.num_small in
    let total : to_z w128 (of_z w128 (to_z w128 (of_z w128 c.scaled.result) +ℤ to_z w128 (of_z w128 c.scaled-2.result))) ≡ c.scaled.result +ℤ c.scaled-2.result = omega (arith, ints) in
    let steps = sum_steps (record { num = c.a.inside.num; den = c.a.inside.den }) (record { num = c.b.inside.num; den = c.b.inside.den }) _ _ _ _ _ _ _ _ _ c.a.invariant c.b.invariant
    c.gcd-shared.ensures.greatest (c.scaled.ensures.value ∙ ap (λ z. z *ℤ pos (c.b.inside.den / c.gcd-shared.result)) a_passed)
    (c.scaled-2.ensures.value ∙ ap (λ z. z *ℤ pos (c.a.inside.den / c.gcd-shared.result)) b_passed) total c.unsigned_abs-size.ensures.value c.remainder.ensures c.gcd-rest.ensures.greatest c.quotient.ensures c.product_of_sizes-den.ensures in
    steps.some

pub returns-clause-value : goal.returns-clause-value
returns-clause-value c =
    let a_passed = passed c.a.inside.num c.a.invariant.num_small in
    let b_passed = passed c.b.inside.num c.b.invariant.num_small in
    let total : to_z w128 (of_z w128 (to_z w128 (of_z w128 c.scaled.result) +ℤ to_z w128 (of_z w128 c.scaled-2.result))) ≡ c.scaled.result +ℤ c.scaled-2.result = omega (arith, ints) in
    let steps = sum_steps (record { num = c.a.inside.num; den = c.a.inside.den }) (record { num = c.b.inside.num; den = c.b.inside.den }) _ _ _ _ _ _ _ _ _ c.a.invariant c.b.invariant
    c.gcd-shared.ensures.greatest (c.scaled.ensures.value ∙ ap (λ z. z *ℤ pos (c.b.inside.den / c.gcd-shared.result)) a_passed)
    (c.scaled-2.ensures.value ∙ ap (λ z. z *ℤ pos (c.a.inside.den / c.gcd-shared.result)) b_passed) total c.unsigned_abs-size.ensures.value c.remainder.ensures c.gcd-rest.ensures.greatest c.quotient.ensures c.product_of_sizes-den.ensures in
    subst₂ (λ a b. c.from_parts-2.result ≡ sum_of a b) c.a.view_is c.b.view_is (c.from_parts-2.ensures ∙ sym steps.value)
