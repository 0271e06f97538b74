use Rattle.std.proofs.Common.{◌≡◌, pos, ◌↔◌, sym, subst, subst₂, w64, to_z-of_z, FitsSigned, IsErrOf, Err, arith}
use Rattle.std.proofs.lemmas.Int.{ints}
use Rattle.smc_num.specs.declared.fault.NumFault.TheVariants.{ZeroDivisor}
use Rattle.smc_num.specs.Gcd.{IsCoprime}
use Rattle.smc_num.specs.Arithmetic.{quotient_of}
use Rattle.smc_num.proofs.GcdLemmas.{coprime-swap}
use Rattle.smc_num.proofs.SignedLemmas.{fits}
use Rattle.smc_num.proofs.ProductLemmas.{quotient_of-signs, quotient_of-zero, quotient_by_zero}
use Rattle.smc_num.proofs.fraction.Frac.div.Goals as goal

pub returns-then-b-eq0-clause-value : goal.returns-then-b-eq0-clause-value
returns-then-b-eq0-clause-value c =
    let small = c.b.invariant.num_small in
    let zero : c.b.inside.num ≡ pos 0 = omega (arith, ints) in
    sym (subst (λ b. quotient_of c.args.a b ≡ Err ZeroDivisor) c.b.view_is
    (quotient_by_zero c.args.a (record { num = c.b.inside.num; den = c.b.inside.den }) zero))

pub product-requires-clause-a_coprime : goal.product-requires-clause-a_coprime
product-requires-clause-a_coprime c =
    let a_fits : FitsSigned w64 c.a.inside.num = fits c.a.inside.num c.a.invariant.num_small in
    subst (λ z. IsCoprime z c.a.inside.den) (sym (simp to_z-of_z at c.unsigned_abs.ensures.value)) c.a.invariant.coprime

pub product-requires-clause-b_coprime : goal.product-requires-clause-b_coprime
product-requires-clause-b_coprime c =
    let b_fits : FitsSigned w64 c.b.inside.num = fits c.b.inside.num c.b.invariant.num_small in
    subst (λ z. IsCoprime c.b.inside.den z) (sym (simp to_z-of_z at c.unsigned_abs-2.ensures.value)) (coprime-swap _ _ c.b.invariant.coprime)

pub returns-clause-value : goal.returns-clause-value
returns-clause-value c =
    let a_fits : FitsSigned w64 c.a.inside.num = fits c.a.inside.num c.a.invariant.num_small in
    let b_fits : FitsSigned w64 c.b.inside.num = fits c.b.inside.num c.b.invariant.num_small in
    let some : c.b.inside.num ≡ pos 0 → ⊥ = λ zero. omega (arith, ints) in
    subst₂ (λ a b. c.product.result ≡ quotient_of a b) c.a.view_is c.b.view_is
    (quotient_of-signs (record { num = c.a.inside.num; den = c.a.inside.den }) (record { num = c.b.inside.num; den = c.b.inside.den }) _ _ _
    c.a.invariant.den_some c.b.invariant.den_some some
    (simp to_z-of_z at c.unsigned_abs.ensures.value) (simp to_z-of_z at c.unsigned_abs-2.ensures.value) (simp to_z-of_z at c.product.ensures))

pub returns-clause-zero : goal.returns-clause-zero
returns-clause-zero c =
    let a_fits : FitsSigned w64 c.a.inside.num = fits c.a.inside.num c.a.invariant.num_small in
    let b_fits : FitsSigned w64 c.b.inside.num = fits c.b.inside.num c.b.invariant.num_small in
    let some : c.b.inside.num ≡ pos 0 → ⊥ = λ zero. omega (arith, ints) in
    let value : c.product.result ≡ quotient_of c.args.a c.args.b =
    subst₂ (λ a b. c.product.result ≡ quotient_of a b) c.a.view_is c.b.view_is
    (quotient_of-signs (record { num = c.a.inside.num; den = c.a.inside.den }) (record { num = c.b.inside.num; den = c.b.inside.den }) _ _ _
    c.a.invariant.den_some c.b.invariant.den_some some
    (simp to_z-of_z at c.unsigned_abs.ensures.value) (simp to_z-of_z at c.unsigned_abs-2.ensures.value) (simp to_z-of_z at c.product.ensures)) in
    subst (λ r. IsErrOf r ZeroDivisor ↔ (c.args.b.num ≡ pos 0)) (sym value)
    (subst (λ a. IsErrOf (quotient_of a c.args.b) ZeroDivisor ↔ (c.args.b.num ≡ pos 0)) c.a.view_is
    (quotient_of-zero (record { num = c.a.inside.num; den = c.a.inside.den }) c.args.b c.a.invariant.den_some))
