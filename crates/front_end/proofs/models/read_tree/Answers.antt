-- A model's text is refused by the first stage or by the second.
use Rattle.std.proofs.Common.{List, subst}
use Rattle.std.specs.Prelude.{Err}
use Rattle.prism_syntax.specs.declared.tokens.Token.{Token}
use Rattle.prism_parser.specs.declared.fault.ParseFault.{ParseFault}
use Rattle.chain_model.specs.Limits.{most_model_bytes}
use Rattle.smc_report.specs.declared.reason.Reason.{Reason}
use Rattle.smc_report.specs.declared.reason.Reason.TheVariants.{Parse}
use Rattle.smc_report.specs.declared.reason.Subject.TheVariants as subject
use Rattle.front_end.specs.Stops.{IsReasonOf}
use Rattle.front_end.specs.Stages.{CutTells, ParsesModel}
use Rattle.front_end.specs.Models.{FlatTells, is_not_cut, is_not_parsed}
use Rattle.front_end.proofs.StopLemmas.{stop_map, answer_map, from_fault}
use Rattle.front_end.proofs.models.read_tree.Goals as goal

pub returns-in-Err-clause-refused : goal.returns-in-Err-clause-refused
returns-in-Err-clause-refused c =
    stop_map (λ (why : Reason). CutTells subject.Model most_model_bytes c.args.text.now (Err why)) (λ (why : Reason). FlatTells c.args.text.now (Err why))
    (λ why cut. is_not_cut cut) c.in-Err.stop c.in-Err.ensures.refused

pub returns-clause-refused : goal.returns-clause-refused
returns-clause-refused c =
    answer_map (IsReasonOf (Parse subject.Model) (λ (fault : ParseFault). ParsesModel c.as_slice.result.now (Err fault)))
    (λ (why : Reason). FlatTells c.args.text.now (Err why))
    (from_fault (Parse subject.Model) (λ (fault : ParseFault). ParsesModel c.as_slice.result.now (Err fault))
    (λ (why : Reason). FlatTells c.args.text.now (Err why)) (λ fault told. is_not_parsed c.in-Ok.ensures.tokens
    (subst (λ (tokens : List Token). ParsesModel tokens (Err fault)) c.as_slice.ensures.value told)))
    c.tree.result c.tree.ensures.refused
