use Rattle.std.proofs.Common.{arith}
use Rattle.smc_num.proofs.GcdLemmas.{gcd_some}
use Rattle.wald_test.proofs.terms.Terms.least.Goals as goal

pub nonzero_div-result : goal.nonzero_div-result
nonzero_div-result c = gcd_some _ _ _ c.gcd-shared.ensures.greatest (omega (arith, c.requires))

pub nonzero_div-result-2 : goal.nonzero_div-result-2
nonzero_div-result-2 c = gcd_some _ _ _ c.gcd-shared.ensures.greatest (omega (arith, c.requires))

pub nonzero_div-result-3 : goal.nonzero_div-result-3
nonzero_div-result-3 c = gcd_some _ _ _ c.gcd-shared.ensures.greatest (omega (arith, c.requires))
