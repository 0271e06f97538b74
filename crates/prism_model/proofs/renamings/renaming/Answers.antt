use Rattle.prism_syntax.specs.declared.tokens.Kind.TheVariants as k
use Rattle.prism_reading.proofs.AnswerLemmas.{passed}
use Rattle.prism_model.proofs.DefiniteLineLemmas.{after_token, both_closed, bracket_pairs, pairs_divide, renaming_end_definite, renaming_end_has, renaming_pairs_definite, renaming_pairs_has}
use Rattle.prism_model.proofs.StepLemmas.{here, past, past_name}
use Rattle.prism_reading.proofs.BothLemmas.{both_found, both_has, first_missing, second_missing}
use Rattle.prism_reading.proofs.DefiniteLemmas.{name_definite, terminal_has}
use Rattle.prism_reading.proofs.MadeLemmas.{is_made, made_found, made_missing}
use Rattle.prism_reading.proofs.SeparatedLemmas.{separated_definite}
use Rattle.prism_model.proofs.renamings.renaming.Goals as goal

pub returns-in_err-source : goal.returns-in_err-source
returns-in_err-source c = passed _ _ _ c.in_err-source.field-0.0 c.from_residual.result c.from_residual.ensures.1 c.in_err-source.ensures (λ left none. made_missing is_made (here (both_has (terminal_has k.OpenBracket) renaming_pairs_has) none.0))

pub returns-in_err-rest : goal.returns-in_err-rest
returns-in_err-rest c = passed _ _ _ c.in_err-rest.field-0.0 c.from_residual-in_err-rest.result c.from_residual-in_err-rest.ensures.1 c.in_err-rest.ensures (λ left none. made_missing is_made (past_name c.in_ok-source.ensures (here renaming_pairs_has none.0)))

pub returns-in_err-pairs : goal.returns-in_err-pairs
returns-in_err-pairs c = passed _ _ _ c.in_err-pairs.field-0.0 c.from_residual-in_err-pairs.result c.from_residual-in_err-pairs.ensures.1 c.in_err-pairs.ensures (λ left none. made_missing is_made (past_name c.in_ok-source.ensures (past c.in_ok-rest.ensures (first_missing renaming_end_has bracket_pairs none))))

pub returns-in_err-rest-2 : goal.returns-in_err-rest-2
returns-in_err-rest-2 c = passed _ _ _ c.in_err-rest-2.field-0.0 c.from_residual-in_err-rest-2.result c.from_residual-in_err-rest-2.ensures.1 c.in_err-rest-2.ensures (λ left none. made_missing is_made (past_name c.in_ok-source.ensures (past c.in_ok-rest.ensures (second_missing (separated_definite pairs_divide) bracket_pairs c.in_ok-pairs.ensures (here (terminal_has k.EndModule) none.0)))))

pub returns-in_err-rest-3 : goal.returns-in_err-rest-3
returns-in_err-rest-3 c = passed _ _ _ c.in_err-rest-3.field-0.0 c.from_residual-in_err-rest-3.result c.from_residual-in_err-rest-3.ensures.1 c.in_err-rest-3.ensures (λ left none. made_missing is_made (past_name c.in_ok-source.ensures (past c.in_ok-rest.ensures (second_missing (separated_definite pairs_divide) bracket_pairs c.in_ok-pairs.ensures (past c.in_ok-rest-2.ensures none.0)))))

pub returns : goal.returns
returns c =
    let rest = after_token k.OpenBracket renaming_pairs_definite in
    made_found is_made
    (both_found (both_closed name_definite rest) c.in_ok-source.ensures (both_found rest c.in_ok-rest.ensures
    (both_found renaming_pairs_definite c.in_ok-pairs.ensures (both_found renaming_end_definite c.in_ok-rest-2.ensures c.in_ok-rest-3.ensures))))
