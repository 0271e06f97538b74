use Rattle.smc_num.proofs.GcdLemmas.{gcd_of-IsGcd}
use Rattle.smc_num.proofs.laws.gcd_law.Goals as goal

pub returns : goal.returns
returns c = gcd_of-IsGcd
