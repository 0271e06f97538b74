use Rattle.chain_model.proofs.StepLemmas.{step_stays}
use Rattle.chain_model.proofs.laws.stays_without_choice.Goals as goal

pub returns : goal.returns
returns c chain draw from none = step_stays chain draw from none
