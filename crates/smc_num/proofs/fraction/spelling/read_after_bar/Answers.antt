use Rattle.std.proofs.Common.{sym}
use Rattle.smc_num.proofs.SpellingLemmas.{tested_numeral}
use Rattle.smc_num.proofs.fraction.spelling.read_after_bar.Goals as goal

pub ratio-requires-clause-bottom : goal.ratio-requires-clause-bottom
ratio-requires-clause-bottom c = (tested_numeral _ (sym c.if-not-is_numeral.ensures)).1
