use Rattle.front_end.proofs.OneModelLemmas.{one_model}
use Rattle.front_end.proofs.laws.one_model_law.Goals as goal

pub returns : goal.returns
returns c = one_model
