use Rattle.prism_model.proofs.ModelLemmas
use Rattle.prism_model.proofs.laws.one_model.Goals as goal

pub returns : goal.returns
returns c = λ tokens x y first second. ModelLemmas.one_model first second
