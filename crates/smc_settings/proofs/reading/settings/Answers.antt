-- The numbers of settings that were read are within their ranges.
use Rattle.std.proofs.lemmas.Result.{IfOk-weaker}
use Rattle.smc_settings.proofs.RangeLemmas.{are_within}
use Rattle.smc_settings.proofs.reading.settings.Goals as goal

pub returns-in-len1-up-clause-within : goal.returns-in-len1-up-clause-within
returns-in-len1-up-clause-within c = IfOk-weaker c.command.result _ _ (λ settings is. are_within _ settings is) c.command.ensures.read
