use Rattle.typecheck.proofs.OneLemmas.{model-refused-once}
use Rattle.typecheck.proofs.laws.one_model_refusal.Goals as goal

pub returns : goal.returns
returns c = model-refused-once
