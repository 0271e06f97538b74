use Rattle.prism_model.proofs.TokenLemmas.{first_of, starts_with}
use Rattle.prism_model.proofs.ModelLemmas.{no_model, no_model_at_end, dtmc_missing, dtmc_found, probabilistic_missing, probabilistic_found}
use Rattle.prism_reading.proofs.AnswerLemmas.{passed}
use Rattle.prism_model.proofs.parsing.parse.Goals as goal

pub returns-in-empty : goal.returns-in-empty
returns-in-empty c = no_model_at_end c.args.tokens.now c.in-empty.len_below

pub returns-in_default : goal.returns-in_default
returns-in_default c = no_model c.args.tokens.now _ c.first-item.result (first_of c.args.tokens.now c.first-item.result c.in-len1-up.len_at_least c.first-item.is) c.in_default.not-Dtmc c.in_default.not-Probabilistic

pub returns-in_err-model-in-Dtmc : goal.returns-in_err-model-in-Dtmc
returns-in_err-model-in-Dtmc c = passed _ _ _ c.in_err-model-in-Dtmc.field-0.0 c.from_residual.result c.from_residual.ensures.1 c.in_err-model-in-Dtmc.ensures (λ left none. dtmc_missing _ _ (starts_with c.args.tokens.now c.first-item.result _ c.in-len1-up.len_at_least c.first-item.is c.in-Dtmc.is) none)

pub returns-in_ok-model-in-Dtmc : goal.returns-in_ok-model-in-Dtmc
returns-in_ok-model-in-Dtmc c = dtmc_found _ _ (starts_with c.args.tokens.now c.first-item.result _ c.in-len1-up.len_at_least c.first-item.is c.in-Dtmc.is) c.in_ok-model-in-Dtmc.ensures

pub returns-in_err-model-in-Probabilistic : goal.returns-in_err-model-in-Probabilistic
returns-in_err-model-in-Probabilistic c = passed _ _ _ c.in_err-model-in-Probabilistic.field-0.0 c.from_residual-in_err-model-in-Probabilistic.result c.from_residual-in_err-model-in-Probabilistic.ensures.1 c.in_err-model-in-Probabilistic.ensures (λ left none. probabilistic_missing _ _ (starts_with c.args.tokens.now c.first-item.result _ c.in-len1-up.len_at_least c.first-item.is c.in-Probabilistic.is) none)

pub returns-in_ok-model-in-Probabilistic : goal.returns-in_ok-model-in-Probabilistic
returns-in_ok-model-in-Probabilistic c = probabilistic_found _ _ (starts_with c.args.tokens.now c.first-item.result _ c.in-len1-up.len_at_least c.first-item.is c.in-Probabilistic.is) c.in_ok-model-in-Probabilistic.ensures
