use Rattle.chain_model.proofs.StepLemmas.{step_keeps}
use Rattle.chain_model.proofs.laws.step_keeps_ranges.Goals as goal

pub returns : goal.returns
returns c chain draw from fits = step_keeps chain draw from fits
