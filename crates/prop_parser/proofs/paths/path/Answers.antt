use Rattle.std.proofs.Common.{refl}
use Rattle.prism_syntax.specs.declared.labels.Labels.TheVariants.{Allowed}
use Rattle.prism_syntax.specs.declared.tokens.Kind.TheVariants as k
use Rattle.prism_syntax.specs.declared.precedence.Precedence.TheVariants as rule
use Rattle.prism_reading.proofs.BothLemmas.{first_missing, second_missing}
use Rattle.prism_reading.proofs.DefiniteLemmas.{anything_leads}
use Rattle.prism_reading.proofs.AnswerLemmas.{passed}
use Rattle.prop_parser.proofs.OneLemmas.{until_definite}
use Rattle.prop_parser.proofs.LineLemmas.{timed_has}
use Rattle.prop_parser.proofs.DefiniteLineLemmas.{next_found, next_missing, finally_found, finally_missing, globally_found, globally_missing, until_found, until_missing}
use Rattle.prop_parser.proofs.paths.path.Goals as goal

pub returns-in_err-state : goal.returns-in_err-state
returns-in_err-state c = passed _ _ _ c.in_err-state.field-0.0 c.from_residual.result c.from_residual.ensures.1 c.in_err-state.ensures (λ left none. next_missing c.in-Some.ensures none)

pub returns-in-Some : goal.returns-in-Some
returns-in-Some c = next_found c.in-Some.ensures c.in_ok-state.ensures

pub returns-in_err-time : goal.returns-in_err-time
returns-in_err-time c = passed _ _ _ c.in_err-time.field-0.0 c.from_residual-in_err-time.result c.from_residual-in_err-time.ensures.1 c.in_err-time.ensures (λ left none. finally_missing c.in-Some-accept.ensures none)

pub returns-in-Some-accept : goal.returns-in-Some-accept
returns-in-Some-accept c = finally_found c.in-Some-accept.ensures c.in_ok-time.ensures

pub returns-in_err-time-2 : goal.returns-in_err-time-2
returns-in_err-time-2 c = passed _ _ _ c.in_err-time-2.field-0.0 c.from_residual-in_err-time-2.result c.from_residual-in_err-time-2.ensures.1 c.in_err-time-2.ensures (λ left none. globally_missing c.in-Some-accept-2.ensures none)

pub returns-in-Some-accept-2 : goal.returns-in-Some-accept-2
returns-in-Some-accept-2 c = globally_found c.in-Some-accept-2.ensures c.in_ok-time-2.ensures

pub returns-in_err-first : goal.returns-in_err-first
returns-in_err-first c = passed _ _ _ c.in_err-first.field-0.0 c.from_residual-in_err-first.result c.from_residual-in_err-first.ensures.1 c.in_err-first.ensures (λ left none. until_missing c.in_default.ensures c.in_default-accept.ensures c.in_default-accept-2.ensures (first_missing timed_has anything_leads none))

pub returns-in_err-time-3 : goal.returns-in_err-time-3
returns-in_err-time-3 c = passed _ _ _ c.in_err-time-3.field-0.0 c.from_residual-in_err-time-3.result c.from_residual-in_err-time-3.ensures.1 c.in_err-time-3.ensures (λ left none. until_missing c.in_default.ensures c.in_default-accept.ensures c.in_default-accept-2.ensures (second_missing (until_definite Allowed rule.Conditional k.U refl) anything_leads c.in_ok-first.ensures none))

pub returns : goal.returns
returns c = until_found c.in_ok-first.ensures c.in_ok-time-3.ensures
