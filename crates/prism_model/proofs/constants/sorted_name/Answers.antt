use Rattle.prism_model.proofs.SortLemmas.{sort_first}
use Rattle.prism_reading.proofs.AnswerLemmas.{passed}
use Rattle.prism_model.proofs.DefiniteLineLemmas.{both_closed, sorted_parts_definite, word_definite}
use Rattle.prism_model.proofs.StepLemmas.{here, later}
use Rattle.prism_reading.proofs.BothLemmas.{both_found}
use Rattle.prism_reading.proofs.DefiniteLemmas.{name_definite, name_has}
use Rattle.prism_reading.proofs.MadeLemmas.{is_made, made_found, made_missing}
use Rattle.prism_reading.proofs.OneOfLemmas.{first_alone, first_found, second_alone, second_found}
use Rattle.prism_model.proofs.constants.sorted_name.Goals as goal

pub returns-in_err-name-in-Some : goal.returns-in_err-name-in-Some
returns-in_err-name-in-Some c = passed _ _ _ c.in_err-name-in-Some.field-0.0 c.from_residual.result c.from_residual.ensures.1 c.in_err-name-in-Some.ensures (λ left none. made_missing is_made (first_alone (later word_definite c.in-Some.ensures none.0) (sort_first c.in-Some.ensures)))

pub returns-in_err-name-in-None : goal.returns-in_err-name-in-None
returns-in_err-name-in-None c = passed _ _ _ c.in_err-name-in-None.field-0.0 c.from_residual-in_err-name-in-None.result c.from_residual-in_err-name-in-None.ensures.1 c.in_err-name-in-None.ensures (λ left none. made_missing is_made (second_alone (here name_has c.in-None.ensures) none.0))

pub returns-in_ok-name-in-Some : goal.returns-in_ok-name-in-Some
returns-in_ok-name-in-Some c = made_found is_made (first_found sorted_parts_definite (both_found (both_closed word_definite name_definite) c.in-Some.ensures c.in_ok-name-in-Some.ensures))

pub returns-in_ok-name-in-None : goal.returns-in_ok-name-in-None
returns-in_ok-name-in-None c = made_found is_made (second_found sorted_parts_definite c.in_ok-name-in-None.ensures)
