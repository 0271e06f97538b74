use Rattle.std.proofs.Common.{◌≡◌, ◌<◌, ◌^◌, unsigned_abs, inl, inr, sym, ◌∙◌, ap, subst, w64, to_z-of_z, FitsSigned, Err}
use Rattle.smc_num.specs.declared.fault.NumFault.TheVariants.{OutOfLimit}
use Rattle.smc_num.specs.Fraction.{limit}
use Rattle.smc_num.specs.Arithmetic.{power_of}
use Rattle.smc_num.proofs.SignedLemmas.{fits}
use Rattle.smc_num.proofs.PowerLemmas.{power_by, power-large, power_of-negative}
use Rattle.smc_num.proofs.fraction.Frac.pow.Goals as goal

pub returns-then-k-lt0-clause-value : goal.returns-then-k-lt0-clause-value
returns-then-k-lt0-clause-value c =
    let k_fits : FitsSigned w64 c.args.k = c.ranges.k in
    sym (power_of-negative c.args.a c.args.k (simp to_z-of_z at c.if-k-lt0.true))

pub returns-in_default-clause-value : goal.returns-in_default-clause-value
returns-in_default-clause-value c =
    let k_fits : FitsSigned w64 c.args.k = c.ranges.k in
    let a_fits : FitsSigned w64 c.a.inside.num = fits c.a.inside.num c.a.invariant.num_small in
    let size : c.unsigned_abs.result ≡ unsigned_abs c.a.inside.num = simp to_z-of_z at c.unsigned_abs.ensures.value in
    let large : c.unsigned_abs.result ^ unsigned_abs c.args.k < limit → ⊥ = simp to_z-of_z at c.in_default.ensures in
    sym (subst (λ a. power_of a c.args.k ≡ Err OutOfLimit) c.a.view_is
    (power-large (record { num = c.a.inside.num; den = c.a.inside.den }) c.args.k c.a.invariant (simp to_z-of_z at c.if-k-lt0.false)
    (inl (λ small. large (subst (λ n. n ^ unsigned_abs c.args.k < limit) (sym size) small)))))

pub returns-in_default-power-clause-value : goal.returns-in_default-power-clause-value
returns-in_default-power-clause-value c =
    let k_fits : FitsSigned w64 c.args.k = c.ranges.k in
    let large : c.a.inside.den ^ unsigned_abs c.args.k < limit → ⊥ = simp to_z-of_z at c.in_default-power.ensures in
    sym (subst (λ a. power_of a c.args.k ≡ Err OutOfLimit) c.a.view_is
    (power-large (record { num = c.a.inside.num; den = c.a.inside.den }) c.args.k c.a.invariant (simp to_z-of_z at c.if-k-lt0.false) (inr large)))

pub from_parts-requires-clause-coprime : goal.from_parts-requires-clause-coprime
from_parts-requires-clause-coprime c =
    let k_fits : FitsSigned w64 c.args.k = c.ranges.k in
    let a_fits : FitsSigned w64 c.a.inside.num = fits c.a.inside.num c.a.invariant.num_small in
    let base : c.unsigned_abs.result ≡ unsigned_abs c.a.inside.num = simp to_z-of_z at c.unsigned_abs.ensures.value in
    let size : (c.unsigned_abs.result ^ unsigned_abs c.args.k < limit) × (c.in-Some.size ≡ c.unsigned_abs.result ^ unsigned_abs c.args.k) = simp to_z-of_z at c.in-Some.ensures in
    let den : (c.a.inside.den ^ unsigned_abs c.args.k < limit) × (c.in-Some-power.den ≡ c.a.inside.den ^ unsigned_abs c.args.k) = simp to_z-of_z at c.in-Some-power.ensures in
    let steps = power_by (record { num = c.a.inside.num; den = c.a.inside.den }) c.args.k _ _ _ c.a.invariant (simp to_z-of_z at c.if-k-lt0.false)
    (c.from.ensures ∙ size.1 ∙ ap (λ n. n ^ unsigned_abs c.args.k) base) (c.from-2.ensures ∙ den.1) (simp to_z-of_z at c.is_negative_power-negative.ensures) in
    steps.coprime

pub from_parts-requires-clause-some : goal.from_parts-requires-clause-some
from_parts-requires-clause-some c =
    let k_fits : FitsSigned w64 c.args.k = c.ranges.k in
    let a_fits : FitsSigned w64 c.a.inside.num = fits c.a.inside.num c.a.invariant.num_small in
    let base : c.unsigned_abs.result ≡ unsigned_abs c.a.inside.num = simp to_z-of_z at c.unsigned_abs.ensures.value in
    let size : (c.unsigned_abs.result ^ unsigned_abs c.args.k < limit) × (c.in-Some.size ≡ c.unsigned_abs.result ^ unsigned_abs c.args.k) = simp to_z-of_z at c.in-Some.ensures in
    let den : (c.a.inside.den ^ unsigned_abs c.args.k < limit) × (c.in-Some-power.den ≡ c.a.inside.den ^ unsigned_abs c.args.k) = simp to_z-of_z at c.in-Some-power.ensures in
    let steps = power_by (record { num = c.a.inside.num; den = c.a.inside.den }) c.args.k _ _ _ c.a.invariant (simp to_z-of_z at c.if-k-lt0.false)
    (c.from.ensures ∙ size.1 ∙ ap (λ n. n ^ unsigned_abs c.args.k) base) (c.from-2.ensures ∙ den.1) (simp to_z-of_z at c.is_negative_power-negative.ensures) in
    steps.some

pub returns-clause-value : goal.returns-clause-value
returns-clause-value c =
    let k_fits : FitsSigned w64 c.args.k = c.ranges.k in
    let a_fits : FitsSigned w64 c.a.inside.num = fits c.a.inside.num c.a.invariant.num_small in
    let base : c.unsigned_abs.result ≡ unsigned_abs c.a.inside.num = simp to_z-of_z at c.unsigned_abs.ensures.value in
    let size : (c.unsigned_abs.result ^ unsigned_abs c.args.k < limit) × (c.in-Some.size ≡ c.unsigned_abs.result ^ unsigned_abs c.args.k) = simp to_z-of_z at c.in-Some.ensures in
    let den : (c.a.inside.den ^ unsigned_abs c.args.k < limit) × (c.in-Some-power.den ≡ c.a.inside.den ^ unsigned_abs c.args.k) = simp to_z-of_z at c.in-Some-power.ensures in
    let steps = power_by (record { num = c.a.inside.num; den = c.a.inside.den }) c.args.k _ _ _ c.a.invariant (simp to_z-of_z at c.if-k-lt0.false)
    (c.from.ensures ∙ size.1 ∙ ap (λ n. n ^ unsigned_abs c.args.k) base) (c.from-2.ensures ∙ den.1) (simp to_z-of_z at c.is_negative_power-negative.ensures) in
    subst (λ a. c.from_parts.result ≡ power_of a c.args.k) c.a.view_is (c.from_parts.ensures ∙ sym steps.value)
