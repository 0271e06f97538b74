use Rattle.prism_syntax.specs.declared.tokens.Kind.TheVariants as k
use Rattle.prism_reading.proofs.AnswerLemmas.{passed}
use Rattle.prism_model.proofs.DefiniteLineLemmas.{const_parts_definite, const_rest_definite, optional_has, sorted_definite, sorted_has}
use Rattle.prism_model.proofs.LineLemmas.{const_made}
use Rattle.prism_model.proofs.StepLemmas.{here, later, past}
use Rattle.prism_reading.proofs.BothLemmas.{both_found, both_has}
use Rattle.prism_reading.proofs.MadeLemmas.{made_found, made_missing}
use Rattle.prism_model.proofs.constants.constant.Goals as goal

pub returns-in_err-rest : goal.returns-in_err-rest
returns-in_err-rest c = passed _ _ _ c.in_err-rest.field-0.0 c.from_residual.result c.from_residual.ensures.1 c.in_err-rest.ensures (λ left none. made_missing const_made (here (both_has sorted_has (optional_has k.Equal)) none.0))

pub returns-in_err-sort : goal.returns-in_err-sort
returns-in_err-sort c = passed _ _ _ c.in_err-sort.field-0.0 c.from_residual-in_err-sort.result c.from_residual-in_err-sort.ensures.1 c.in_err-sort.ensures (λ left none. made_missing const_made (past c.in_ok-rest.ensures (here (optional_has k.Equal) none)))

pub returns-in_err-value : goal.returns-in_err-value
returns-in_err-value c = passed _ _ _ c.in_err-value.field-0.0 c.from_residual-in_err-value.result c.from_residual-in_err-value.ensures.1 c.in_err-value.ensures (λ left none. made_missing const_made (past c.in_ok-rest.ensures (later sorted_definite c.in_ok-sort.ensures none)))

pub returns : goal.returns
returns c = made_found const_made (both_found const_parts_definite c.in_ok-rest.ensures (both_found const_rest_definite c.in_ok-sort.ensures c.in_ok-value.ensures))
