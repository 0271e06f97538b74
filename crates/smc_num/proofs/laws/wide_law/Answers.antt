use Rattle.smc_num.proofs.WideLemmas.{limited_wide, ratio_wide}
use Rattle.smc_num.proofs.laws.wide_law.Goals as goal

pub returns-clause-decimal : goal.returns-clause-decimal
returns-clause-decimal c = limited_wide

pub returns-clause-ratio : goal.returns-clause-ratio
returns-clause-ratio c = ratio_wide
