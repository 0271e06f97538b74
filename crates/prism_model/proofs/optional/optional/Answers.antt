use Rattle.std.proofs.Common.{refl}
use Rattle.prism_syntax.specs.declared.tokens.Kind.TheVariants as k
use Rattle.prism_reading.proofs.AnswerLemmas.{passed}
use Rattle.prism_model.proofs.DefiniteLineLemmas.{after_token, optional_parts_definite}
use Rattle.prism_model.proofs.ExpressionLemmas.{until_definite, until_has}
use Rattle.prism_model.proofs.LineLemmas.{optional_made}
use Rattle.prism_model.proofs.StepLemmas.{begin_with, here, no_token, otherwise, past}
use Rattle.prism_reading.proofs.BothLemmas.{both_found}
use Rattle.prism_reading.proofs.DefiniteLemmas.{terminal_has, terminal_starts}
use Rattle.prism_reading.proofs.MadeLemmas.{made_found, made_missing}
use Rattle.prism_reading.proofs.OneOfLemmas.{first_alone, first_found, second_alone, second_found}
use Rattle.prism_model.proofs.optional.optional.Goals as goal

pub returns-in_err-value-in-Some : goal.returns-in_err-value-in-Some
returns-in_err-value-in-Some c = passed _ _ _ c.in_err-value-in-Some.field-0.0 c.from_residual.result c.from_residual.ensures.1 c.in_err-value-in-Some.ensures (λ left none. made_missing (optional_made _) (first_alone (past c.in-Some.ensures none) (otherwise _ _ (begin_with c.in-Some.ensures) (terminal_starts k.Semicolon) (terminal_has k.Semicolon) c.requires)))

pub returns-in_err-rest-in-None : goal.returns-in_err-rest-in-None
returns-in_err-rest-in-None c = passed _ _ _ c.in_err-rest-in-None.field-0.0 c.from_residual-in_err-rest-in-None.result c.from_residual-in_err-rest-in-None.ensures.1 c.in_err-rest-in-None.ensures (λ left none. made_missing (optional_made _) (second_alone (here (until_has k.Semicolon) (no_token _ c.in-None.ensures)) none.0))

pub returns-in_ok-value-in-Some : goal.returns-in_ok-value-in-Some
returns-in_ok-value-in-Some c =
    made_found (optional_made _)
    (first_found (optional_parts_definite _ c.requires) (both_found (after_token _ (until_definite k.Semicolon refl)) c.in-Some.ensures c.in_ok-value-in-Some.ensures))

pub returns-in_ok-rest-in-None : goal.returns-in_ok-rest-in-None
returns-in_ok-rest-in-None c = made_found (optional_made _) (second_found (optional_parts_definite _ c.requires) c.in_ok-rest-in-None.ensures)
