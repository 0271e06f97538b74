use Rattle.prism_model.proofs.UpdateLemmas.{true_found, joined_true}
use Rattle.prism_reading.proofs.AnswerLemmas.{passed}
use Rattle.prism_model.proofs.DefiniteLineLemmas.{update_parts_definite}
use Rattle.prism_model.proofs.LineLemmas.{update_made}
use Rattle.prism_model.proofs.StepLemmas.{no_token}
use Rattle.prism_reading.proofs.MadeLemmas.{made_found, made_missing}
use Rattle.prism_reading.proofs.OneOfLemmas.{second_alone, second_found}
use Rattle.prism_model.proofs.updates.update.Goals as goal

pub returns-in-Some-accept : goal.returns-in-Some-accept
returns-in-Some-accept c = joined_true c.in-Some.ensures c.in-Some-accept.ensures

pub returns-in-None-accept : goal.returns-in-None-accept
returns-in-None-accept c = rw c.new.ensures (true_found c.in-Some.ensures c.in-None-accept.ensures)

pub returns-in_err-sets-in-None : goal.returns-in_err-sets-in-None
returns-in_err-sets-in-None c = passed _ _ _ c.in_err-sets-in-None.field-0.0 c.from_residual.result c.from_residual.ensures.1 c.in_err-sets-in-None.ensures (λ left none. made_missing update_made (second_alone (no_token _ c.in-None.ensures) none))

pub returns-in_ok-sets-in-None : goal.returns-in_ok-sets-in-None
returns-in_ok-sets-in-None c = made_found update_made (second_found update_parts_definite c.in_ok-sets-in-None.ensures)
