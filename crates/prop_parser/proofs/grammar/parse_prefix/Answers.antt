use Rattle.prism_syntax.specs.declared.tokens.Kind.TheVariants as k
use Rattle.prism_reading.proofs.BothLemmas.{both_found, both_has, first_missing, second_missing}
use Rattle.prism_reading.proofs.DefiniteLemmas.{anything_leads, terminal_definite}
use Rattle.prism_reading.proofs.MadeLemmas.{made_found, made_missing}
use Rattle.prop_parser.specs.Parts.{cmp_of}
use Rattle.prism_reading.proofs.AnswerLemmas.{passed}
use Rattle.prop_parser.proofs.OneLemmas.{one_definite, bound_has}
use Rattle.prop_parser.proofs.LineLemmas.{property_made, cmp_has, path_has}
use Rattle.prop_parser.proofs.DefiniteLineLemmas.{bound_definite, from_bound_definite, from_cmp_definite, property_parts_definite}
use Rattle.prop_parser.proofs.grammar.parse_prefix.Goals as goal

pub returns-in_err-rest : goal.returns-in_err-rest
returns-in_err-rest c = passed _ _ _ c.in_err-rest.field-0.0 c.from_residual.result c.from_residual.ensures.1 c.in_err-rest.ensures (λ left none. made_missing property_made (first_missing (both_has cmp_has (both_has (bound_has k.OpenBracket) path_has)) anything_leads none.0))

pub returns-in_err-cmp : goal.returns-in_err-cmp
returns-in_err-cmp c = passed _ _ _ c.in_err-cmp.field-0.0 c.from_residual-in_err-cmp.result c.from_residual-in_err-cmp.ensures.1 c.in_err-cmp.ensures (λ left none. made_missing property_made (second_missing (terminal_definite k.P) anything_leads c.in_ok-rest.ensures (first_missing (both_has (bound_has k.OpenBracket) path_has) anything_leads none)))

pub returns-in_err-bound : goal.returns-in_err-bound
returns-in_err-bound c = passed _ _ _ c.in_err-bound.field-0.0 c.from_residual-in_err-bound.result c.from_residual-in_err-bound.ensures.1 c.in_err-bound.ensures (λ left none. made_missing property_made (second_missing (terminal_definite k.P) anything_leads c.in_ok-rest.ensures (second_missing (one_definite cmp_of) anything_leads c.in_ok-cmp.ensures (first_missing path_has anything_leads none))))

pub returns-in_err-path : goal.returns-in_err-path
returns-in_err-path c = passed _ _ _ c.in_err-path.field-0.0 c.from_residual-in_err-path.result c.from_residual-in_err-path.ensures.1 c.in_err-path.ensures (λ left none. made_missing property_made (second_missing (terminal_definite k.P) anything_leads c.in_ok-rest.ensures (second_missing (one_definite cmp_of) anything_leads c.in_ok-cmp.ensures (second_missing bound_definite anything_leads c.in_ok-bound.ensures none))))

pub returns : goal.returns
returns c = made_found property_made (both_found property_parts_definite c.in_ok-rest.ensures (both_found from_cmp_definite c.in_ok-cmp.ensures (both_found from_bound_definite c.in_ok-bound.ensures c.in_ok-path.ensures)))
