use Rattle.prism_syntax.specs.declared.tokens.Kind.TheVariants as k
use Rattle.prism_reading.proofs.AnswerLemmas.{passed}
use Rattle.prism_model.proofs.DefiniteLineLemmas.{after_token, variable_definite, variable_has}
use Rattle.prism_model.proofs.LineLemmas.{global_made}
use Rattle.prism_model.proofs.StepLemmas.{here, past}
use Rattle.prism_reading.proofs.BothLemmas.{both_found}
use Rattle.prism_reading.proofs.MadeLemmas.{made_found, made_missing}
use Rattle.prism_model.proofs.variables.global.Goals as goal

pub returns-in_err-rest : goal.returns-in_err-rest
returns-in_err-rest c = passed _ _ _ c.in_err-rest.field-0.0 c.from_residual.result c.from_residual.ensures.1 c.in_err-rest.ensures (λ left none. made_missing global_made (here variable_has none.0))

pub returns-in_err-variable : goal.returns-in_err-variable
returns-in_err-variable c = passed _ _ _ c.in_err-variable.field-0.0 c.from_residual-in_err-variable.result c.from_residual-in_err-variable.ensures.1 c.in_err-variable.ensures (λ left none. made_missing global_made (past c.in_ok-rest.ensures none))

pub returns : goal.returns
returns c = made_found global_made (both_found (after_token k.Global variable_definite) c.in_ok-rest.ensures c.in_ok-variable.ensures)
