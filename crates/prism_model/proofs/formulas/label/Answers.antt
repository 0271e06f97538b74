use Rattle.prism_syntax.specs.declared.tokens.Kind.TheVariants as k
use Rattle.prism_reading.proofs.AnswerLemmas.{passed}
use Rattle.prism_model.proofs.DefiniteLineLemmas.{after_token, both_closed, named_rest_definite, named_rest_has}
use Rattle.prism_model.proofs.ExpressionLemmas.{until_has}
use Rattle.prism_model.proofs.LineLemmas.{label_made}
use Rattle.prism_model.proofs.StepLemmas.{here, later, past}
use Rattle.prism_reading.proofs.BothLemmas.{both_found, both_has}
use Rattle.prism_reading.proofs.DefiniteLemmas.{quoted_definite, quoted_has}
use Rattle.prism_reading.proofs.MadeLemmas.{made_found, made_missing}
use Rattle.prism_model.proofs.formulas.label.Goals as goal

pub returns-in_err-rest : goal.returns-in_err-rest
returns-in_err-rest c = passed _ _ _ c.in_err-rest.field-0.0 c.from_residual.result c.from_residual.ensures.1 c.in_err-rest.ensures (λ left none. made_missing label_made (here (both_has quoted_has named_rest_has) none.0))

pub returns-in_err-name : goal.returns-in_err-name
returns-in_err-name c = passed _ _ _ c.in_err-name.field-0.0 c.from_residual-in_err-name.result c.from_residual-in_err-name.ensures.1 c.in_err-name.ensures (λ left none. made_missing label_made (past c.in_ok-rest.ensures (here named_rest_has none.0)))

pub returns-in_err-rest-2 : goal.returns-in_err-rest-2
returns-in_err-rest-2 c = passed _ _ _ c.in_err-rest-2.field-0.0 c.from_residual-in_err-rest-2.result c.from_residual-in_err-rest-2.ensures.1 c.in_err-rest-2.ensures (λ left none. made_missing label_made (past c.in_ok-rest.ensures (later quoted_definite c.in_ok-name.ensures (here (until_has k.Semicolon) none.0))))

pub returns-in_err-body : goal.returns-in_err-body
returns-in_err-body c = passed _ _ _ c.in_err-body.field-0.0 c.from_residual-in_err-body.result c.from_residual-in_err-body.ensures.1 c.in_err-body.ensures (λ left none. made_missing label_made (past c.in_ok-rest.ensures (later quoted_definite c.in_ok-name.ensures (past c.in_ok-rest-2.ensures none))))

pub returns : goal.returns
returns c =
    made_found label_made
    (both_found (after_token k.Label (both_closed quoted_definite named_rest_definite)) c.in_ok-rest.ensures
    (both_found (both_closed quoted_definite named_rest_definite) c.in_ok-name.ensures (both_found named_rest_definite c.in_ok-rest-2.ensures c.in_ok-body.ensures)))
