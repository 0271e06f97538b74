use Rattle.std.proofs.Common.{◌≡◌, pos, ◌↔◌, sym, subst, w64, to_z-of_z, FitsSigned, IsErrOf, arith}
use Rattle.std.proofs.lemmas.Int.{ints}
use Rattle.smc_num.specs.declared.fault.NumFault.TheVariants.{ZeroDivisor}
use Rattle.smc_num.proofs.LowestLemmas.{fraction_of-parts, fraction_of-zero}
use Rattle.smc_num.proofs.fraction.Frac.new.Goals as goal

pub returns-then-den-eq0-clause-value : goal.returns-then-den-eq0-clause-value
returns-then-den-eq0-clause-value c =
    let zero : c.args.den ≡ pos 0 = omega (arith, ints) in
    sym ((fraction_of-zero c.args.num c.args.den).1 zero)

pub returns-clause-value : goal.returns-clause-value
returns-clause-value c =
    let num_fits : FitsSigned w64 c.args.num = c.ranges.num in
    let den_fits : FitsSigned w64 c.args.den = c.ranges.den in
    let some : c.args.den ≡ pos 0 → ⊥ = λ zero. omega (arith, ints) in
    fraction_of-parts c.args.num c.args.den _ _ _
    (simp to_z-of_z at c.unsigned_abs.ensures.value) (simp to_z-of_z at c.unsigned_abs-2.ensures.value) some
    (simp to_z-of_z at c.reduced.ensures)

pub returns-clause-zero : goal.returns-clause-zero
returns-clause-zero c =
    let num_fits : FitsSigned w64 c.args.num = c.ranges.num in
    let den_fits : FitsSigned w64 c.args.den = c.ranges.den in
    let some : c.args.den ≡ pos 0 → ⊥ = λ zero. omega (arith, ints) in
    let value = fraction_of-parts c.args.num c.args.den _ _ _
    (simp to_z-of_z at c.unsigned_abs.ensures.value) (simp to_z-of_z at c.unsigned_abs-2.ensures.value) some
    (simp to_z-of_z at c.reduced.ensures) in
    subst (λ r. IsErrOf r ZeroDivisor ↔ (c.args.den ≡ pos 0)) (sym value) (fraction_of-zero c.args.num c.args.den)
