use Rattle.std.proofs.Common.{refl}
use Rattle.prism_syntax.specs.declared.tokens.Kind.TheVariants as k
use Rattle.prism_reading.proofs.AnswerLemmas.{passed}
use Rattle.prism_model.proofs.DefiniteLineLemmas.{after_token, both_closed, range_parts_definite}
use Rattle.prism_model.proofs.ExpressionLemmas.{until_definite, until_has}
use Rattle.prism_model.proofs.StepLemmas.{begin_with, here, later, no_token, otherwise, past}
use Rattle.prism_reading.proofs.BothLemmas.{both_found, both_has}
use Rattle.prism_reading.proofs.DefiniteLemmas.{terminal_has, terminal_starts}
use Rattle.prism_reading.proofs.MadeLemmas.{is_made, made_found, made_missing}
use Rattle.prism_reading.proofs.OneOfLemmas.{first_alone, first_found, second_alone, second_found}
use Rattle.prism_model.proofs.variables.range.Goals as goal

pub returns-in_err-low-in-Some : goal.returns-in_err-low-in-Some
returns-in_err-low-in-Some c = passed _ _ _ c.in_err-low-in-Some.field-0.0 c.from_residual.result c.from_residual.ensures.1 c.in_err-low-in-Some.ensures (λ left none. made_missing is_made (first_alone (past c.in-Some.ensures (here (until_has k.CloseBracket) none)) (otherwise _ _ (begin_with c.in-Some.ensures) (terminal_starts k.Bool) (terminal_has k.Bool) (λ is. cc))))

pub returns-in_err-high-in-Some : goal.returns-in_err-high-in-Some
returns-in_err-high-in-Some c = passed _ _ _ c.in_err-high-in-Some.field-0.0 c.from_residual-in_err-high-in-Some.result c.from_residual-in_err-high-in-Some.ensures.1 c.in_err-high-in-Some.ensures (λ left none. made_missing is_made (first_alone (past c.in-Some.ensures (later (until_definite k.Dots refl) c.in_ok-low-in-Some.ensures none)) (otherwise _ _ (begin_with c.in-Some.ensures) (terminal_starts k.Bool) (terminal_has k.Bool) (λ is. cc))))

pub returns-in_err-rest-in-None : goal.returns-in_err-rest-in-None
returns-in_err-rest-in-None c = passed _ _ _ c.in_err-rest-in-None.field-0.0 c.from_residual-in_err-rest-in-None.result c.from_residual-in_err-rest-in-None.ensures.1 c.in_err-rest-in-None.ensures (λ left none. made_missing is_made (second_alone (here (both_has (until_has k.Dots) (until_has k.CloseBracket)) (no_token _ c.in-None.ensures)) none.0))

pub returns-in_ok-high-in-Some : goal.returns-in_ok-high-in-Some
returns-in_ok-high-in-Some c =
    let ends = both_closed (until_definite k.Dots refl) (until_definite k.CloseBracket refl) in
    made_found is_made
    (first_found range_parts_definite (both_found (after_token k.OpenBracket ends) c.in-Some.ensures (both_found ends c.in_ok-low-in-Some.ensures c.in_ok-high-in-Some.ensures)))

pub returns-in_ok-rest-in-None : goal.returns-in_ok-rest-in-None
returns-in_ok-rest-in-None c = made_found is_made (second_found range_parts_definite c.in_ok-rest-in-None.ensures)
