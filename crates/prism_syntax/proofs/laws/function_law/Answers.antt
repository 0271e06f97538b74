use Rattle.prism_syntax.proofs.InverseLemmas.{function_is_token}
use Rattle.prism_syntax.proofs.laws.function_law.Goals as goal

pub returns-clause-spelling : goal.returns-clause-spelling
returns-clause-spelling c = function_is_token
