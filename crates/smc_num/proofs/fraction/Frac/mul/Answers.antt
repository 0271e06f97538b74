use Rattle.std.proofs.Common.{◌≡◌, sym, subst, subst₂, w64, to_z-of_z, FitsSigned, IsOkUnless}
use Rattle.smc_num.specs.declared.fault.NumFault.TheVariants.{OutOfLimit}
use Rattle.smc_num.specs.Gcd.{IsCoprime}
use Rattle.smc_num.specs.Arithmetic.{product_of}
use Rattle.smc_num.proofs.SignedLemmas.{fits}
use Rattle.smc_num.proofs.ProductLemmas.{product_of-signs, product_of-refusal}
use Rattle.smc_num.proofs.fraction.Frac.mul.Goals as goal

pub product-requires-clause-a_coprime : goal.product-requires-clause-a_coprime
product-requires-clause-a_coprime c =
    let a_fits : FitsSigned w64 c.a.inside.num = fits c.a.inside.num c.a.invariant.num_small in
    subst (λ z. IsCoprime z c.a.inside.den) (sym (simp to_z-of_z at c.unsigned_abs.ensures.value)) c.a.invariant.coprime

pub product-requires-clause-b_coprime : goal.product-requires-clause-b_coprime
product-requires-clause-b_coprime c =
    let b_fits : FitsSigned w64 c.b.inside.num = fits c.b.inside.num c.b.invariant.num_small in
    subst (λ z. IsCoprime z c.b.inside.den) (sym (simp to_z-of_z at c.unsigned_abs-2.ensures.value)) c.b.invariant.coprime

pub returns-clause-value : goal.returns-clause-value
returns-clause-value c =
    let a_fits : FitsSigned w64 c.a.inside.num = fits c.a.inside.num c.a.invariant.num_small in
    let b_fits : FitsSigned w64 c.b.inside.num = fits c.b.inside.num c.b.invariant.num_small in
    subst₂ (λ a b. c.product.result ≡ product_of a b) c.a.view_is c.b.view_is
    (product_of-signs (record { num = c.a.inside.num; den = c.a.inside.den }) (record { num = c.b.inside.num; den = c.b.inside.den }) _ _ _
    (simp to_z-of_z at c.unsigned_abs.ensures.value) (simp to_z-of_z at c.unsigned_abs-2.ensures.value) (simp to_z-of_z at c.product.ensures))

pub returns-clause-refusal : goal.returns-clause-refusal
returns-clause-refusal c =
    let a_fits : FitsSigned w64 c.a.inside.num = fits c.a.inside.num c.a.invariant.num_small in
    let b_fits : FitsSigned w64 c.b.inside.num = fits c.b.inside.num c.b.invariant.num_small in
    subst (λ r. IsOkUnless r OutOfLimit)
    (sym (product_of-signs (record { num = c.a.inside.num; den = c.a.inside.den }) (record { num = c.b.inside.num; den = c.b.inside.den }) _ _ _
    (simp to_z-of_z at c.unsigned_abs.ensures.value) (simp to_z-of_z at c.unsigned_abs-2.ensures.value) (simp to_z-of_z at c.product.ensures)))
    (product_of-refusal _ _)
