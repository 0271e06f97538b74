-- A number that was read is spelled by the text.
use Rattle.std.proofs.Common.{subst}
use Rattle.smc_settings.specs.Values.{IsNumberOf}
use Rattle.smc_settings.proofs.ConstantLemmas.{number_read}
use Rattle.smc_settings.proofs.numbers.number.Goals as goal

pub returns-in-Ok-clause-found : goal.returns-in-Ok-clause-found
returns-in-Ok-clause-found c =
    subst (λ t. IsNumberOf t c.in-Ok.number) c.as_bytes.ensures.value (number_read c.as_bytes.result.now c.in-Ok.number c.in-Ok.ensures.value c.in-Ok.ensures.other)
