-- A property without formulas has a path formula, or no type.
use Rattle.std.specs.Prelude.{Err}
use Rattle.typecheck.specs.PathRefusals.{IsRefusedProperty}
use Rattle.smc_report.specs.declared.reason.Reason.{Reason}
use Rattle.smc_report.specs.declared.reason.Reason.TheVariants as reason
use Rattle.smc_report.specs.declared.reason.Subject.TheVariants as subject
use Rattle.front_end.specs.Stops.{IsReasonOf}
use Rattle.front_end.specs.Properties.{PropertyTells, has_no_type}
use Rattle.front_end.proofs.StopLemmas.{answer_map, from_fault}
use Rattle.front_end.proofs.PropertyLemmas.{is_question}
use Rattle.front_end.proofs.properties.read_property.Goals as goal

pub returns-clause-question : goal.returns-clause-question
returns-clause-question c =
    is_question c.args.text.now c.args.model.now c.in-Ok.flat c.question-answer.result c.in-Ok.ensures.flat c.question-answer.ensures.question
    c.question-answer.ensures.accepted

pub returns-clause-refused : goal.returns-clause-refused
returns-clause-refused c =
    answer_map (IsReasonOf (reason.Type subject.Property) (IsRefusedProperty c.args.model.now.consts c.args.model.now.chain c.in-Ok.flat))
    (λ (why : Reason). PropertyTells c.args.text.now c.args.model.now (Err why))
    (from_fault (reason.Type subject.Property) (IsRefusedProperty c.args.model.now.consts c.args.model.now.chain c.in-Ok.flat)
    (λ (why : Reason). PropertyTells c.args.text.now c.args.model.now (Err why)) (λ fault told. has_no_type c.in-Ok.ensures.flat told))
    c.question-answer.result c.question-answer.ensures.refused
