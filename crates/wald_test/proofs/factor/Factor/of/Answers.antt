use Rattle.std.proofs.Math.Nat.{pos_of_ne-zero}
use Rattle.wald_test.proofs.FactorLemmas.{factor_of-zero, factor_of-some}
use Rattle.wald_test.proofs.factor.Factor.of.Goals as goal

pub returns-then-number-eq0 : goal.returns-then-number-eq0
returns-then-number-eq0 c = factor_of-zero c.args.number c.if-number-eq0.true

pub returns : goal.returns
returns c = factor_of-some c.args.number _ _ (pos_of_ne-zero c.if-number-eq0.false) c.bracket-low.ensures.value
