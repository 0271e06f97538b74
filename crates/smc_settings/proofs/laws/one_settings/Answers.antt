-- Words have at most one settings.
use Rattle.smc_settings.proofs.UniqueLemmas.{one_settings}
use Rattle.smc_settings.proofs.laws.one_settings.Goals as goal

pub returns : goal.returns
returns c = one_settings
