use Rattle.prism_parser.proofs.ModelLemmas.{later_model, model_later}
use Rattle.prism_parser.proofs.laws.model_arrow_law.Goals as goal

pub returns : goal.returns
returns c tokens tree text = (λ long. model_later text long, λ later. later_model text later.1)
