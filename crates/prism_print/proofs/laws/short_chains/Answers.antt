use Rattle.prism_print.proofs.ReadingLemmas.{all_stay_short}
use Rattle.prism_print.proofs.laws.short_chains.Goals as goal

pub returns : goal.returns
returns c = all_stay_short
