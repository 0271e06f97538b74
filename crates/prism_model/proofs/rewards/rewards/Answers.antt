use Rattle.prism_syntax.specs.declared.tokens.Kind.TheVariants as k
use Rattle.prism_model.proofs.RewardsLemmas.{ends_definite, ends_has}
use Rattle.prism_reading.proofs.AnswerLemmas.{passed}
use Rattle.prism_model.proofs.DefiniteLineLemmas.{after_token}
use Rattle.prism_model.proofs.LineLemmas.{rewards_made}
use Rattle.prism_model.proofs.StepLemmas.{here, past}
use Rattle.prism_reading.proofs.BothLemmas.{both_found}
use Rattle.prism_reading.proofs.MadeLemmas.{made_found, made_missing}
use Rattle.prism_model.proofs.rewards.rewards.Goals as goal

pub returns-in_err-rest : goal.returns-in_err-rest
returns-in_err-rest c = passed _ _ _ c.in_err-rest.field-0.0 c.from_residual.result c.from_residual.ensures.1 c.in_err-rest.ensures (λ left none. made_missing rewards_made (here ends_has none.0))

pub returns-in_err-rest-2 : goal.returns-in_err-rest-2
returns-in_err-rest-2 c = passed _ _ _ c.in_err-rest-2.field-0.0 c.from_residual-in_err-rest-2.result c.from_residual-in_err-rest-2.ensures.1 c.in_err-rest-2.ensures (λ left none. made_missing rewards_made (past c.in_ok-rest.ensures none))

pub returns : goal.returns
returns c = made_found rewards_made (both_found (after_token k.Rewards ends_definite) c.in_ok-rest.ensures c.in_ok-rest-2.ensures)
