use Rattle.smc_num.proofs.GcdLemmas.{lcm_first, lcm_second, lcm_least}
use Rattle.smc_num.proofs.laws.lcm_law.Goals as goal

pub returns-clause-first : goal.returns-clause-first
returns-clause-first c = lcm_first

pub returns-clause-second : goal.returns-clause-second
returns-clause-second c = lcm_second

pub returns-clause-least : goal.returns-clause-least
returns-clause-least c = lcm_least
