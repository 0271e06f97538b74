use Rattle.prism_expression.proofs.BeginLemmas.{begins_prefix, prefix_begins}
use Rattle.prism_expression.proofs.laws.begins_exactly.Goals as goal

pub returns : goal.returns
returns c = λ labels level tokens. (λ begins. begins_prefix begins, λ prefix. prefix_begins prefix)
