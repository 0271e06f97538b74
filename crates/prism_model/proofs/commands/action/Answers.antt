use Rattle.prism_syntax.specs.declared.tokens.Kind.TheVariants as k
use Rattle.prism_reading.proofs.AnswerLemmas.{passed}
use Rattle.prism_model.proofs.DefiniteLineLemmas.{action_parts_definite, both_closed}
use Rattle.prism_model.proofs.StepLemmas.{here, no_token, past_name}
use Rattle.prism_reading.proofs.BothLemmas.{both_found}
use Rattle.prism_reading.proofs.DefiniteLemmas.{name_definite, terminal_definite, terminal_has}
use Rattle.prism_reading.proofs.MadeLemmas.{is_made, made_found, made_missing}
use Rattle.prism_reading.proofs.OneOfLemmas.{first_alone, first_found, second_found}
use Rattle.prism_model.proofs.commands.action.Goals as goal

pub returns-in_err-name-in-None : goal.returns-in_err-name-in-None
returns-in_err-name-in-None c = passed _ _ _ c.in_err-name-in-None.field-0.0 c.from_residual.result c.from_residual.ensures.1 c.in_err-name-in-None.ensures (λ left none. made_missing is_made (first_alone (here (terminal_has k.CloseBracket) none.0) (no_token _ c.in-None.ensures)))

pub returns-in_err-rest-in-None : goal.returns-in_err-rest-in-None
returns-in_err-rest-in-None c = passed _ _ _ c.in_err-rest-in-None.field-0.0 c.from_residual-in_err-rest-in-None.result c.from_residual-in_err-rest-in-None.ensures.1 c.in_err-rest-in-None.ensures (λ left none. made_missing is_made (first_alone (past_name c.in_ok-name-in-None.ensures none.0) (no_token _ c.in-None.ensures)))

pub returns-in_ok-rest-in-None : goal.returns-in_ok-rest-in-None
returns-in_ok-rest-in-None c = made_found is_made (first_found action_parts_definite (both_found (both_closed name_definite (terminal_definite k.CloseBracket)) c.in_ok-name-in-None.ensures c.in_ok-rest-in-None.ensures))

pub returns-in-Some : goal.returns-in-Some
returns-in-Some c = made_found is_made (second_found action_parts_definite c.in-Some.ensures)
