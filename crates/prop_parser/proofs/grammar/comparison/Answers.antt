use Rattle.std.proofs.Common.{sym, ◌∙◌}
use Rattle.prop_parser.specs.Parts.{cmp_of}
use Rattle.prop_parser.proofs.OneLemmas.{one_found, one_missing, one_none}
use Rattle.prop_parser.proofs.LineLemmas.{cmp_has}
use Rattle.prop_parser.proofs.grammar.comparison.Goals as goal

pub returns-in_default : goal.returns-in_default
returns-in_default c = one_none cmp_of cmp_has c.in_default.ensures.cases

pub returns-in-Some-cmp : goal.returns-in-Some-cmp
returns-in-Some-cmp c = one_found cmp_of c.in-Some.first.now c.in-Some.ensures.cases.0 (sym c.cmp.ensures ∙ c.in-Some-cmp.is)

pub returns-in-None : goal.returns-in-None
returns-in-None c = one_missing cmp_of cmp_has c.in-Some.first.now c.in-Some.ensures.cases.0 (sym c.cmp.ensures ∙ c.in-None.is)
