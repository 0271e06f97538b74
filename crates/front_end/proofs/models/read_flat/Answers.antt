-- A tree is refused by expansion.
use Rattle.std.specs.Prelude.{Err}
use Rattle.module_expand.specs.Refusals as expanding
use Rattle.smc_report.specs.declared.reason.Reason.{Reason}
use Rattle.smc_report.specs.declared.reason.Reason.TheVariants.{Expand}
use Rattle.smc_report.specs.declared.reason.Subject.TheVariants as subject
use Rattle.front_end.specs.Stops.{IsReasonOf}
use Rattle.front_end.specs.Models.{FlatTells, is_not_expanded}
use Rattle.front_end.proofs.StopLemmas.{answer_map, from_fault}
use Rattle.front_end.proofs.models.read_flat.Goals as goal

pub returns-clause-refused : goal.returns-clause-refused
returns-clause-refused c =
    answer_map (IsReasonOf (Expand subject.Model) (expanding.IsRefused c.in-Ok.tree)) (λ (why : Reason). FlatTells c.args.text.now (Err why))
    (from_fault (Expand subject.Model) (expanding.IsRefused c.in-Ok.tree) (λ (why : Reason). FlatTells c.args.text.now (Err why))
    (λ fault told. is_not_expanded c.in-Ok.ensures.tree told))
    c.flat.result c.flat.ensures.refused
