use Rattle.chain_model.proofs.StepLemmas.{trace_keeps}
use Rattle.chain_model.proofs.laws.traces_keep_ranges.Goals as goal

pub returns : goal.returns
returns c job trace k = trace_keeps job trace k
