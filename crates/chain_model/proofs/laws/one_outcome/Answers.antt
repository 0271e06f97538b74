use Rattle.chain_model.proofs.OutcomeLemmas.{one_outcome_at_most}
use Rattle.chain_model.proofs.laws.one_outcome.Goals as goal

pub returns : goal.returns
returns c job trace a b first second = one_outcome_at_most job trace a b first second
