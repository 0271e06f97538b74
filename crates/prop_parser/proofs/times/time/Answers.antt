use Rattle.prism_reading.proofs.BothLemmas.{both_found, first_missing, second_missing}
use Rattle.prism_reading.proofs.DefiniteLemmas.{anything_leads}
use Rattle.prism_reading.proofs.MadeLemmas.{made_found, made_missing}
use Rattle.std.proofs.Common.{[]}
use Rattle.prop_parser.specs.Parts.{strict_of}
use Rattle.prism_reading.proofs.AnswerLemmas.{passed}
use Rattle.prop_parser.proofs.OneLemmas.{one_definite}
use Rattle.prop_parser.proofs.LineLemmas.{time_made, last_has}
use Rattle.prop_parser.proofs.DefiniteLineLemmas.{time_parts_definite}
use Rattle.prop_parser.proofs.times.time.Goals as goal

pub returns-in_err-strict : goal.returns-in_err-strict
returns-in_err-strict c = passed _ _ _ c.in_err-strict.field-0.0 c.from_residual.result c.from_residual.ensures.1 c.in_err-strict.ensures (λ left none. made_missing time_made (first_missing (last_has []) anything_leads none))

pub returns-in_err-last : goal.returns-in_err-last
returns-in_err-last c = passed _ _ _ c.in_err-last.field-0.0 c.from_residual-in_err-last.result c.from_residual-in_err-last.ensures.1 c.in_err-last.ensures (λ left none. made_missing time_made (second_missing (one_definite strict_of) anything_leads c.in_ok-strict.ensures none))

pub returns : goal.returns
returns c = made_found time_made (both_found time_parts_definite c.in_ok-strict.ensures c.in_ok-last.ensures)
