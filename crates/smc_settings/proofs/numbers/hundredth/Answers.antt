-- One hundredth is a fraction.
use Rattle.std.proofs.Common.{◌∙◌}
use Rattle.smc_settings.proofs.HundredthLemmas.{hundredth}
use Rattle.smc_settings.proofs.numbers.hundredth.Goals as goal

pub returns-in-Ok : goal.returns-in-Ok
returns-in-Ok c = let same = c.in-Ok.ensures.value ∙ hundredth in cc same

pub returns-in-Err : goal.returns-in-Err
returns-in-Err c = let same = c.in-Err.ensures.value ∙ hundredth in absurd (cc same)
