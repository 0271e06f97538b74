use Rattle.prism_syntax.specs.declared.tokens.Kind.TheVariants as k
use Rattle.prism_reading.proofs.AnswerLemmas.{passed}
use Rattle.prism_model.proofs.DefiniteLineLemmas.{after_token, assign_end_definite, assign_end_has, both_closed}
use Rattle.prism_model.proofs.ExpressionLemmas.{until_has}
use Rattle.prism_model.proofs.LineLemmas.{assign_made}
use Rattle.prism_model.proofs.StepLemmas.{here, past, past_name}
use Rattle.prism_reading.proofs.BothLemmas.{both_found, both_has}
use Rattle.prism_reading.proofs.DefiniteLemmas.{name_definite, name_has, terminal_has}
use Rattle.prism_reading.proofs.MadeLemmas.{made_found, made_missing}
use Rattle.prism_model.proofs.updates.assignment.Goals as goal

pub returns-in_err-rest : goal.returns-in_err-rest
returns-in_err-rest c = passed _ _ _ c.in_err-rest.field-0.0 c.from_residual.result c.from_residual.ensures.1 c.in_err-rest.ensures (λ left none. made_missing assign_made (here (both_has name_has (both_has (terminal_has k.Prime) assign_end_has)) none.0))

pub returns-in_err-name : goal.returns-in_err-name
returns-in_err-name c = passed _ _ _ c.in_err-name.field-0.0 c.from_residual-in_err-name.result c.from_residual-in_err-name.ensures.1 c.in_err-name.ensures (λ left none. made_missing assign_made (past c.in_ok-rest.ensures (here (both_has (terminal_has k.Prime) assign_end_has) none.0)))

pub returns-in_err-rest-2 : goal.returns-in_err-rest-2
returns-in_err-rest-2 c = passed _ _ _ c.in_err-rest-2.field-0.0 c.from_residual-in_err-rest-2.result c.from_residual-in_err-rest-2.ensures.1 c.in_err-rest-2.ensures (λ left none. made_missing assign_made (past c.in_ok-rest.ensures (past_name c.in_ok-name.ensures (here assign_end_has none.0))))

pub returns-in_err-rest-3 : goal.returns-in_err-rest-3
returns-in_err-rest-3 c = passed _ _ _ c.in_err-rest-3.field-0.0 c.from_residual-in_err-rest-3.result c.from_residual-in_err-rest-3.ensures.1 c.in_err-rest-3.ensures (λ left none. made_missing assign_made (past c.in_ok-rest.ensures (past_name c.in_ok-name.ensures (past c.in_ok-rest-2.ensures (here (until_has k.Close) none.0)))))

pub returns-in_err-value : goal.returns-in_err-value
returns-in_err-value c = passed _ _ _ c.in_err-value.field-0.0 c.from_residual-in_err-value.result c.from_residual-in_err-value.ensures.1 c.in_err-value.ensures (λ left none. made_missing assign_made (past c.in_ok-rest.ensures (past_name c.in_ok-name.ensures (past c.in_ok-rest-2.ensures (past c.in_ok-rest-3.ensures none)))))

pub returns : goal.returns
returns c =
    let ends = after_token k.Prime assign_end_definite in
    let names = both_closed name_definite ends in
    made_found assign_made
    (both_found (after_token k.Open names) c.in_ok-rest.ensures (both_found names c.in_ok-name.ensures
    (both_found ends c.in_ok-rest-2.ensures (both_found assign_end_definite c.in_ok-rest-3.ensures c.in_ok-value.ensures))))
