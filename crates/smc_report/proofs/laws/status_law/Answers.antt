use Rattle.smc_report.proofs.StatusLemmas.{status_is}
use Rattle.smc_report.proofs.laws.status_law.Goals as goal

pub returns : goal.returns
returns c = status_is
