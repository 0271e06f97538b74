-- Two numbers of which one is not 0 have a divisor in common.
use Rattle.std.proofs.Common.{arith}
use Rattle.smc_num.proofs.GcdLemmas.{gcd_some}
use Rattle.trace_meaning.proofs.weights.multiple.Goals as goal

pub nonzero_div-b : goal.nonzero_div-b
nonzero_div-b c = gcd_some _ _ _ c.gcd.ensures.greatest (omega (arith, c.requires))
