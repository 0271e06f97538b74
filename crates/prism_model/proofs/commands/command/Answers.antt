use Rattle.std.proofs.Common.{refl}
use Rattle.prism_syntax.specs.declared.tokens.Kind.TheVariants as k
use Rattle.prism_reading.proofs.AnswerLemmas.{passed}
use Rattle.prism_model.proofs.BranchLemmas.{branches_has}
use Rattle.prism_model.proofs.DefiniteLineLemmas.{action_definite, action_has, after_token, both_closed}
use Rattle.prism_model.proofs.ExpressionLemmas.{until_definite}
use Rattle.prism_model.proofs.LineLemmas.{command_made}
use Rattle.prism_model.proofs.ModuleLemmas.{guard_definite, guard_has}
use Rattle.prism_model.proofs.StepLemmas.{here, later, past}
use Rattle.prism_reading.proofs.BothLemmas.{both_found, both_has}
use Rattle.prism_reading.proofs.MadeLemmas.{made_found, made_missing}
use Rattle.prism_model.proofs.commands.command.Goals as goal

pub returns-in_err-rest : goal.returns-in_err-rest
returns-in_err-rest c = passed _ _ _ c.in_err-rest.field-0.0 c.from_residual.result c.from_residual.ensures.1 c.in_err-rest.ensures (λ left none. made_missing command_made (here (both_has action_has guard_has) none.0))

pub returns-in_err-action : goal.returns-in_err-action
returns-in_err-action c = passed _ _ _ c.in_err-action.field-0.0 c.from_residual-in_err-action.result c.from_residual-in_err-action.ensures.1 c.in_err-action.ensures (λ left none. made_missing command_made (past c.in_ok-rest.ensures (here guard_has none)))

pub returns-in_err-guard : goal.returns-in_err-guard
returns-in_err-guard c = passed _ _ _ c.in_err-guard.field-0.0 c.from_residual-in_err-guard.result c.from_residual-in_err-guard.ensures.1 c.in_err-guard.ensures (λ left none. made_missing command_made (past c.in_ok-rest.ensures (later action_definite c.in_ok-action.ensures (here branches_has none))))

pub returns-in_err-branches : goal.returns-in_err-branches
returns-in_err-branches c = passed _ _ _ c.in_err-branches.field-0.0 c.from_residual-in_err-branches.result c.from_residual-in_err-branches.ensures.1 c.in_err-branches.ensures (λ left none. made_missing command_made (past c.in_ok-rest.ensures (later action_definite c.in_ok-action.ensures (later (until_definite k.Arrow refl) c.in_ok-guard.ensures none))))

pub returns : goal.returns
returns c =
    let rest = both_closed action_definite guard_definite in
    made_found command_made
    (both_found (after_token k.OpenBracket rest) c.in_ok-rest.ensures (both_found rest c.in_ok-action.ensures (both_found guard_definite c.in_ok-guard.ensures c.in_ok-branches.ensures)))
