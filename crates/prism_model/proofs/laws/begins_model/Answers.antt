use Rattle.prism_model.proofs.BeginLemmas.{model_begun}
use Rattle.prism_model.proofs.laws.begins_model.Goals as goal

pub returns : goal.returns
returns c tokens = (λ begins. model_begun.back tokens begins, λ begins. model_begun.to tokens begins)
