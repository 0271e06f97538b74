use Rattle.std.proofs.Common.{sym, ◌∙◌}
use Rattle.prop_parser.specs.Parts.{strict_of}
use Rattle.prop_parser.proofs.OneLemmas.{one_found, one_missing, one_none}
use Rattle.prop_parser.proofs.LineLemmas.{strict_has}
use Rattle.prop_parser.proofs.times.time_sign.Goals as goal

pub returns-in_default : goal.returns-in_default
returns-in_default c = one_none strict_of strict_has c.in_default.ensures.cases

pub returns-in-Some-strict : goal.returns-in-Some-strict
returns-in-Some-strict c = one_found strict_of c.in-Some.first.now c.in-Some.ensures.cases.0 (sym c.strict.ensures ∙ c.in-Some-strict.is)

pub returns-in-None : goal.returns-in-None
returns-in-None c = one_missing strict_of strict_has c.in-Some.first.now c.in-Some.ensures.cases.0 (sym c.strict.ensures ∙ c.in-None.is)
