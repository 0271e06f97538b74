-- A property is refused where it is too large without formulas.
use Rattle.std.proofs.Common.{◌≡◌, sym, subst}
use Rattle.std.specs.Prelude.{Err}
use Rattle.module_expand.specs.declared.fault.ExpandFault.TheVariants.{TooLarge}
use Rattle.module_expand.specs.Listed.{AreTooLarge}
use Rattle.module_expand.specs.Properties.{property_exprs}
use Rattle.smc_report.specs.declared.reason.Reason.{Reason}
use Rattle.smc_report.specs.declared.reason.Reason.TheVariants.{Expand}
use Rattle.smc_report.specs.declared.reason.Subject.TheVariants as subject
use Rattle.front_end.specs.Properties.{PropertyTells, flat_in, is_too_large}
use Rattle.front_end.proofs.StopLemmas.{answer_map}
use Rattle.front_end.proofs.PropertyLemmas.{has_flat}
use Rattle.front_end.proofs.properties.read_flat.Goals as goal

pub returns-clause-refused : goal.returns-clause-refused
returns-clause-refused c =
    answer_map (λ (why : Reason). (why ≡ Expand subject.Property TooLarge) × AreTooLarge (property_exprs (flat_in c.args.model.now c.in-Ok.tree)))
    (λ (why : Reason). PropertyTells c.args.text.now c.args.model.now (Err why))
    (λ why told. subst (λ (w : Reason). PropertyTells c.args.text.now c.args.model.now (Err w)) (sym told.0) (is_too_large c.in-Ok.ensures.tree told.1))
    c.flat-answer.result c.flat-answer.ensures.refused

pub returns-in-Err-clause-refused : goal.returns-in-Err-clause-refused
returns-in-Err-clause-refused c = c.in-Err.ensures.refused c.args.model.now

pub returns-clause-flat : goal.returns-clause-flat
returns-clause-flat c = has_flat c.args.text.now c.args.model.now c.in-Ok.tree c.flat-answer.result c.in-Ok.ensures.tree c.flat-answer.ensures.flat c.flat-answer.ensures.within
