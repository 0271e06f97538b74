use Rattle.prism_syntax.specs.declared.tokens.Kind.TheVariants as k
use Rattle.prism_reading.proofs.AnswerLemmas.{passed}
use Rattle.prism_model.proofs.DefiniteLineLemmas.{after_token, both_closed}
use Rattle.prism_model.proofs.LineLemmas.{pair_made}
use Rattle.prism_model.proofs.StepLemmas.{here, past, past_name}
use Rattle.prism_reading.proofs.BothLemmas.{both_found, both_has}
use Rattle.prism_reading.proofs.DefiniteLemmas.{name_definite, name_has, terminal_has}
use Rattle.prism_reading.proofs.MadeLemmas.{made_found, made_missing}
use Rattle.prism_model.proofs.renamings.pair.Goals as goal

pub returns-in_err-from : goal.returns-in_err-from
returns-in_err-from c = passed _ _ _ c.in_err-from.field-0.0 c.from_residual.result c.from_residual.ensures.1 c.in_err-from.ensures (λ left none. made_missing pair_made (here (both_has (terminal_has k.Equal) name_has) none.0))

pub returns-in_err-rest : goal.returns-in_err-rest
returns-in_err-rest c = passed _ _ _ c.in_err-rest.field-0.0 c.from_residual-in_err-rest.result c.from_residual-in_err-rest.ensures.1 c.in_err-rest.ensures (λ left none. made_missing pair_made (past_name c.in_ok-from.ensures (here name_has none.0)))

pub returns-in_err-to : goal.returns-in_err-to
returns-in_err-to c = passed _ _ _ c.in_err-to.field-0.0 c.from_residual-in_err-to.result c.from_residual-in_err-to.ensures.1 c.in_err-to.ensures (λ left none. made_missing pair_made (past_name c.in_ok-from.ensures (past c.in_ok-rest.ensures none.0)))

pub returns : goal.returns
returns c =
    let rest = after_token k.Equal name_definite in
    made_found pair_made (both_found (both_closed name_definite rest) c.in_ok-from.ensures (both_found rest c.in_ok-rest.ensures c.in_ok-to.ensures))
