use Rattle.std.proofs.Common.{refl}
use Rattle.prism_syntax.specs.declared.tokens.Kind.TheVariants as k
use Rattle.prism_reading.proofs.AnswerLemmas.{passed}
use Rattle.prism_model.proofs.DefiniteLineLemmas.{both_closed, update_definite, update_has}
use Rattle.prism_model.proofs.ExpressionLemmas.{until_definite}
use Rattle.prism_model.proofs.LineLemmas.{weighted_made}
use Rattle.prism_model.proofs.StepLemmas.{here, later}
use Rattle.prism_reading.proofs.BothLemmas.{both_found}
use Rattle.prism_reading.proofs.MadeLemmas.{made_found, made_missing}
use Rattle.prism_model.proofs.branches.weighted.Goals as goal

pub returns-in_err-weight : goal.returns-in_err-weight
returns-in_err-weight c = passed _ _ _ c.in_err-weight.field-0.0 c.from_residual.result c.from_residual.ensures.1 c.in_err-weight.ensures (λ left none. made_missing weighted_made (here update_has none))

pub returns-in_err-sets : goal.returns-in_err-sets
returns-in_err-sets c = passed _ _ _ c.in_err-sets.field-0.0 c.from_residual-in_err-sets.result c.from_residual-in_err-sets.ensures.1 c.in_err-sets.ensures (λ left none. made_missing weighted_made (later (until_definite k.Colon refl) c.in_ok-weight.ensures none))

pub returns : goal.returns
returns c = made_found weighted_made (both_found (both_closed (until_definite k.Colon refl) update_definite) c.in_ok-weight.ensures c.in_ok-sets.ensures)
