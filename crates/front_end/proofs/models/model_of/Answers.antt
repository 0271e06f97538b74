-- A flat text is refused by its constants or by its types.
use Rattle.const_eval.specs.Refusals as constants
use Rattle.typecheck.specs.ModelRefusals as typing
use Rattle.smc_report.specs.declared.reason.Reason.TheVariants as reason
use Rattle.smc_report.specs.declared.reason.Subject.TheVariants as subject
use Rattle.front_end.specs.Stops.{IsReasonOf}
use Rattle.front_end.specs.Models.{RefusesFlat, has_no_values, has_no_type}
use Rattle.front_end.proofs.StopLemmas.{stop_map, from_fault}
use Rattle.front_end.proofs.models.model_of.Goals as goal

pub returns-in-Err-clause-refused : goal.returns-in-Err-clause-refused
returns-in-Err-clause-refused c =
    stop_map (IsReasonOf reason.Const (constants.IsRefused c.args.flat.consts c.args.given.now)) (RefusesFlat c.args.flat c.args.given.now)
    (from_fault reason.Const (constants.IsRefused c.args.flat.consts c.args.given.now) (RefusesFlat c.args.flat c.args.given.now)
    (λ fault told. has_no_values told))
    c.in-Err.stop c.in-Err.ensures.refused

pub returns-in-Err-chain-clause-refused : goal.returns-in-Err-chain-clause-refused
returns-in-Err-chain-clause-refused c =
    stop_map (IsReasonOf (reason.Type subject.Model) (typing.IsRefused c.args.flat c.in-Ok.consts)) (RefusesFlat c.args.flat c.args.given.now)
    (from_fault (reason.Type subject.Model) (typing.IsRefused c.args.flat c.in-Ok.consts) (RefusesFlat c.args.flat c.args.given.now)
    (λ fault told. has_no_type (record { values = c.in-Ok.ensures.values; accepted = c.in-Ok.ensures.accepted }) told))
    c.in-Err-chain.stop c.in-Err-chain.ensures.refused
