use Rattle.prism_syntax.specs.declared.tokens.Kind.TheVariants as k
use Rattle.prism_reading.proofs.AnswerLemmas.{passed}
use Rattle.prism_model.proofs.DefiniteLineLemmas.{after_token, both_closed, optional_has, range_definite, variable_rest_definite, variable_rest_has}
use Rattle.prism_model.proofs.LineLemmas.{variable_made}
use Rattle.prism_model.proofs.StepLemmas.{here, later, past, past_name}
use Rattle.prism_reading.proofs.BothLemmas.{both_found, both_has}
use Rattle.prism_reading.proofs.DefiniteLemmas.{name_definite, terminal_has}
use Rattle.prism_reading.proofs.MadeLemmas.{made_found, made_missing}
use Rattle.prism_model.proofs.variables.variable.Goals as goal

pub returns-in_err-name : goal.returns-in_err-name
returns-in_err-name c = passed _ _ _ c.in_err-name.field-0.0 c.from_residual.result c.from_residual.ensures.1 c.in_err-name.ensures (λ left none. made_missing variable_made (here (both_has (terminal_has k.Colon) variable_rest_has) none.0))

pub returns-in_err-rest : goal.returns-in_err-rest
returns-in_err-rest c = passed _ _ _ c.in_err-rest.field-0.0 c.from_residual-in_err-rest.result c.from_residual-in_err-rest.ensures.1 c.in_err-rest.ensures (λ left none. made_missing variable_made (past_name c.in_ok-name.ensures (here variable_rest_has none.0)))

pub returns-in_err-range : goal.returns-in_err-range
returns-in_err-range c = passed _ _ _ c.in_err-range.field-0.0 c.from_residual-in_err-range.result c.from_residual-in_err-range.ensures.1 c.in_err-range.ensures (λ left none. made_missing variable_made (past_name c.in_ok-name.ensures (past c.in_ok-rest.ensures (here (optional_has k.Init) none))))

pub returns-in_err-init : goal.returns-in_err-init
returns-in_err-init c = passed _ _ _ c.in_err-init.field-0.0 c.from_residual-in_err-init.result c.from_residual-in_err-init.ensures.1 c.in_err-init.ensures (λ left none. made_missing variable_made (past_name c.in_ok-name.ensures (past c.in_ok-rest.ensures (later range_definite c.in_ok-range.ensures none))))

pub returns : goal.returns
returns c =
    let rest = after_token k.Colon variable_rest_definite in
    made_found variable_made
    (both_found (both_closed name_definite rest) c.in_ok-name.ensures (both_found rest c.in_ok-rest.ensures (both_found variable_rest_definite c.in_ok-range.ensures c.in_ok-init.ensures)))
