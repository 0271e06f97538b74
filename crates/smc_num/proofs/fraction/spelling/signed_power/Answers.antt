use Rattle.std.proofs.Common.{sym}
use Rattle.smc_num.proofs.SpellingLemmas.{tested_numeral}
use Rattle.smc_num.proofs.fraction.spelling.signed_power.Goals as goal

pub magnitude-size-requires : goal.magnitude-size-requires
magnitude-size-requires c = (tested_numeral _ (sym c.if-not-is_numeral.ensures)).1
