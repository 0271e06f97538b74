use Rattle.std.proofs.lemmas.Nat.Gcd.{IsGcd-from_mod, IsGcd-from_zero}
use Rattle.smc_num.proofs.GcdLemmas.{gcd_of-is}
use Rattle.smc_num.proofs.euclid.gcd.Goals as goal

pub steps-preserved : goal.steps-preserved
steps-preserved c = λ g h. c.steps.invariant g (IsGcd-from_mod _ _ _ h)

pub returns-clause-greatest : goal.returns-clause-greatest
returns-clause-greatest c = c.steps.invariant _ (IsGcd-from_zero _ _ c.steps-test.false)

pub returns-clause-value : goal.returns-clause-value
returns-clause-value c = gcd_of-is _ _ _ (c.steps.invariant _ (IsGcd-from_zero _ _ c.steps-test.false))
