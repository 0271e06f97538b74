use Rattle.prism_syntax.specs.declared.tokens.Kind.TheVariants as k
use Rattle.prism_reading.proofs.BothLemmas.{both_found, first_missing, second_missing}
use Rattle.prism_reading.proofs.DefiniteLemmas.{anything_leads}
use Rattle.prism_reading.proofs.AnswerLemmas.{passed}
use Rattle.prop_parser.proofs.OneLemmas.{state_has}
use Rattle.prop_parser.proofs.DefiniteLineLemmas.{time_definite, timed_definite}
use Rattle.prop_parser.proofs.paths.timed.Goals as goal

pub returns-in_err-time : goal.returns-in_err-time
returns-in_err-time c = passed _ _ _ c.in_err-time.field-0.0 c.from_residual.result c.from_residual.ensures.1 c.in_err-time.ensures (λ left none. first_missing (state_has k.CloseBracket) anything_leads none)

pub returns-in_err-state : goal.returns-in_err-state
returns-in_err-state c = passed _ _ _ c.in_err-state.field-0.0 c.from_residual-in_err-state.result c.from_residual-in_err-state.ensures.1 c.in_err-state.ensures (λ left none. second_missing time_definite anything_leads c.in_ok-time.ensures none)

pub returns : goal.returns
returns c = both_found timed_definite c.in_ok-time.ensures c.in_ok-state.ensures
