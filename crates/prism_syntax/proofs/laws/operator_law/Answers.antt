use Rattle.prism_syntax.proofs.InverseLemmas.{token_is_operator}
use Rattle.prism_syntax.proofs.laws.operator_law.Goals as goal

pub returns : goal.returns
returns c = token_is_operator
