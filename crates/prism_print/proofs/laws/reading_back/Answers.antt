use Rattle.prism_print.proofs.ReadingLemmas.{all_read_back}
use Rattle.prism_print.proofs.laws.reading_back.Goals as goal

pub returns : goal.returns
returns c = all_read_back
