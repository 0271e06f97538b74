use Rattle.smc_num.proofs.LowestLemmas.{lowest-IsFrac, IsFrac-lowest, lowest-refusal, same_fraction, fraction_of-value}
use Rattle.smc_num.proofs.laws.lowest_law.Goals as goal

pub returns-clause-lowest : goal.returns-clause-lowest
returns-clause-lowest c = λ n d f some. (λ is. lowest-IsFrac n d f some is, λ h. IsFrac-lowest n d f some h.0 h.1)

pub returns-clause-signed : goal.returns-clause-signed
returns-clause-signed c = fraction_of-value

pub returns-clause-refusal : goal.returns-clause-refusal
returns-clause-refusal c = lowest-refusal

pub returns-clause-one : goal.returns-clause-one
returns-clause-one c = same_fraction
