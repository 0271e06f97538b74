use Rattle.std.proofs.Common.{◌≡◌, sym, ◌∙◌, subst, to_z, of_z, w64, to_z-of_z}
use Rattle.smc_num.specs.Fraction.{IsFrac, signed}
use Rattle.smc_num.proofs.LowestLemmas.{IsFrac-signed}
use Rattle.smc_num.proofs.fraction.Frac.from_parts.Goals as goal

pub invariant_of-result : goal.invariant_of-result
invariant_of-result c =
    let number : to_z w64 (of_z w64 c.with_sign-num.result) ≡ signed c.args.negative c.args.size =
    to_z-of_z {w = w64} (record { sfits = c.with_sign-num.type_inv }) ∙ c.with_sign-num.ensures in
    subst (λ n. IsFrac (record { num = n; den = c.args.den })) (sym number)
    (IsFrac-signed c.args.negative c.args.size c.args.den c.requires.coprime c.if-size-ge-LIMIT.false c.if-den-ge-LIMIT.false c.requires.some)
