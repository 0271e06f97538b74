use Rattle.prism_model.proofs.TokenLemmas.{starts_with}
use Rattle.prism_model.proofs.variables.begins_name.Goals as goal

pub returns-in-Name : goal.returns-in-Name
returns-in-Name c = (λ none. none _ _ (starts_with c.args.tokens.now c.first-item.result _ c.in-len1-up.len_at_least c.first-item.is c.in-Name.is))
