-- Wald's test has its three numbers.
use Rattle.smc_settings.specs.Settings.{wald}
use Rattle.smc_settings.proofs.check.wald.Goals as goal

pub returns-clause-found : goal.returns-clause-found
returns-clause-found c =
    wald _ _ _ c.in-Some.delta c.in-Some-number_or.alpha c.in-Some-number_or-2.beta c.in-Some.ensures.found c.in-Some-number_or.ensures.found c.in-Some-number_or-2.ensures.found
