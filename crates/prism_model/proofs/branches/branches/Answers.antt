use Rattle.prism_syntax.specs.declared.tokens.Kind.TheVariants as k
use Rattle.prism_reading.proofs.AnswerLemmas.{passed}
use Rattle.prism_model.proofs.BranchLemmas.{branches_parts_definite, several_definite, several_missing}
use Rattle.prism_model.proofs.DefiniteLineLemmas.{branches_divide, semicolon_branches}
use Rattle.prism_model.proofs.LineLemmas.{branches_made}
use Rattle.prism_reading.proofs.BothLemmas.{both_found, first_missing, second_missing}
use Rattle.prism_reading.proofs.DefiniteLemmas.{terminal_has}
use Rattle.prism_reading.proofs.MadeLemmas.{made_found}
use Rattle.prism_reading.proofs.OneOfLemmas.{second_found}
use Rattle.prism_reading.proofs.SeparatedLemmas.{separated_definite}
use Rattle.prism_model.proofs.branches.branches.Goals as goal

pub returns-in_err-branches-2 : goal.returns-in_err-branches-2
returns-in_err-branches-2 c = passed _ _ _ c.in_err-branches-2.field-0.0 c.from_residual-in_err-branches-2.result c.from_residual-in_err-branches-2.ensures.1 c.in_err-branches-2.ensures (λ left none. several_missing c.if-begins_update.ensures (first_missing (terminal_has k.Semicolon) semicolon_branches none))

pub returns-in_err-rest : goal.returns-in_err-rest
returns-in_err-rest c = passed _ _ _ c.in_err-rest.field-0.0 c.from_residual-in_err-rest.result c.from_residual-in_err-rest.ensures.1 c.in_err-rest.ensures (λ left none. several_missing c.if-begins_update.ensures (second_missing (separated_definite branches_divide) semicolon_branches c.in_ok-branches-2.ensures none.0))

pub returns-in_ok-rest : goal.returns-in_ok-rest
returns-in_ok-rest c = made_found branches_made (second_found branches_parts_definite (both_found several_definite c.in_ok-branches-2.ensures c.in_ok-rest.ensures))
