use Rattle.prism_syntax.specs.declared.tokens.Kind.TheVariants as k
use Rattle.prism_reading.proofs.AnswerLemmas.{passed}
use Rattle.prism_model.proofs.ModuleLemmas.{body_parts_definite, commands_definite, commands_has, commands_lead, commands_repeat, end_leads, variables_repeat}
use Rattle.prism_reading.proofs.BothLemmas.{both_found, first_missing, second_missing}
use Rattle.prism_reading.proofs.DefiniteLemmas.{terminal_has}
use Rattle.prism_reading.proofs.EachLemmas.{each_definite}
use Rattle.prism_reading.proofs.MadeLemmas.{is_made, made_found, made_missing}
use Rattle.prism_model.proofs.modules.body.Goals as goal

pub returns-in_err-vars : goal.returns-in_err-vars
returns-in_err-vars c = passed _ _ _ c.in_err-vars.field-0.0 c.from_residual.result c.from_residual.ensures.1 c.in_err-vars.ensures (λ left none. made_missing is_made (first_missing commands_has commands_lead none))

pub returns-in_err-commands : goal.returns-in_err-commands
returns-in_err-commands c = passed _ _ _ c.in_err-commands.field-0.0 c.from_residual-in_err-commands.result c.from_residual-in_err-commands.ensures.1 c.in_err-commands.ensures (λ left none. made_missing is_made (second_missing (each_definite variables_repeat) commands_lead c.in_ok-vars.ensures (first_missing (terminal_has k.EndModule) end_leads none)))

pub returns-in_err-rest : goal.returns-in_err-rest
returns-in_err-rest c = passed _ _ _ c.in_err-rest.field-0.0 c.from_residual-in_err-rest.result c.from_residual-in_err-rest.ensures.1 c.in_err-rest.ensures (λ left none. made_missing is_made (second_missing (each_definite variables_repeat) commands_lead c.in_ok-vars.ensures (second_missing (each_definite commands_repeat) end_leads c.in_ok-commands.ensures none.0)))

pub returns : goal.returns
returns c = made_found is_made (both_found body_parts_definite c.in_ok-vars.ensures (both_found commands_definite c.in_ok-commands.ensures c.in_ok-rest.ensures))
