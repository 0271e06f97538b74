use Rattle.std.proofs.Common.{refl}
use Rattle.prism_syntax.specs.declared.tokens.Kind.TheVariants as k
use Rattle.prism_reading.proofs.AnswerLemmas.{passed}
use Rattle.prism_model.proofs.DefiniteLineLemmas.{after_token, both_closed, renaming_definite, renaming_has}
use Rattle.prism_model.proofs.LineLemmas.{module_made}
use Rattle.prism_model.proofs.ModuleLemmas.{body_has, body_starts, module_rest_definite, module_rest_has, no_body_equal}
use Rattle.prism_model.proofs.StepLemmas.{begin_with, here, no_token, otherwise, past, past_name}
use Rattle.prism_reading.proofs.BothLemmas.{both_found, both_has}
use Rattle.prism_reading.proofs.DefiniteLemmas.{name_definite, name_has}
use Rattle.prism_reading.proofs.MadeLemmas.{made_found, made_missing}
use Rattle.prism_reading.proofs.OneOfLemmas.{first_alone, first_found, second_alone, second_found}
use Rattle.prism_model.proofs.modules.module.Goals as goal

pub returns-in_err-rest : goal.returns-in_err-rest
returns-in_err-rest c = passed _ _ _ c.in_err-rest.field-0.0 c.from_residual.result c.from_residual.ensures.1 c.in_err-rest.ensures (λ left none. made_missing module_made (here (both_has name_has module_rest_has) none.0))

pub returns-in_err-name : goal.returns-in_err-name
returns-in_err-name c = passed _ _ _ c.in_err-name.field-0.0 c.from_residual-in_err-name.result c.from_residual-in_err-name.ensures.1 c.in_err-name.ensures (λ left none. made_missing module_made (past c.in_ok-rest.ensures (here module_rest_has none.0)))

pub returns-in_err-source-in-Some : goal.returns-in_err-source-in-Some
returns-in_err-source-in-Some c = passed _ _ _ c.in_err-source-in-Some.field-0.0 c.from_residual-in_err-source-in-Some.result c.from_residual-in_err-source-in-Some.ensures.1 c.in_err-source-in-Some.ensures (λ left none. made_missing module_made (past c.in_ok-rest.ensures (past_name c.in_ok-name.ensures (first_alone (past c.in-Some.ensures none) (otherwise _ _ (begin_with c.in-Some.ensures) body_starts body_has (no_body_equal _ refl))))))

pub returns-in_err-vars-in-None : goal.returns-in_err-vars-in-None
returns-in_err-vars-in-None c = passed _ _ _ c.in_err-vars-in-None.field-0.0 c.from_residual-in_err-vars-in-None.result c.from_residual-in_err-vars-in-None.ensures.1 c.in_err-vars-in-None.ensures (λ left none. made_missing module_made (past c.in_ok-rest.ensures (past_name c.in_ok-name.ensures (second_alone (here renaming_has (no_token _ c.in-None.ensures)) none))))

pub returns-in_ok-source-in-Some : goal.returns-in_ok-source-in-Some
returns-in_ok-source-in-Some c =
    let rest = both_closed name_definite module_rest_definite in
    made_found module_made
    (both_found (after_token k.Module rest) c.in_ok-rest.ensures (both_found rest c.in_ok-name.ensures
    (first_found module_rest_definite (both_found (after_token k.Equal renaming_definite) c.in-Some.ensures c.in_ok-source-in-Some.ensures))))

pub returns-in_ok-vars-in-None : goal.returns-in_ok-vars-in-None
returns-in_ok-vars-in-None c =
    let rest = both_closed name_definite module_rest_definite in
    made_found module_made
    (both_found (after_token k.Module rest) c.in_ok-rest.ensures (both_found rest c.in_ok-name.ensures (second_found module_rest_definite c.in_ok-vars-in-None.ensures)))
