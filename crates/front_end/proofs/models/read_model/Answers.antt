-- A model's text is refused before it has a flat text, or with that.
use Rattle.std.specs.Prelude.{Err}
use Rattle.smc_report.specs.declared.reason.Reason.{Reason}
use Rattle.front_end.specs.Models.{FlatTells, ModelTells, RefusesFlat, has_no_flat, is_not_typed}
use Rattle.front_end.proofs.StopLemmas.{stop_map, answer_map}
use Rattle.front_end.proofs.models.read_model.Goals as goal

pub returns-in-Err-clause-refused : goal.returns-in-Err-clause-refused
returns-in-Err-clause-refused c =
    stop_map (λ (why : Reason). FlatTells c.args.text.now (Err why)) (λ (why : Reason). ModelTells c.args.text.now c.args.given.now (Err why))
    (λ why told. has_no_flat told) c.in-Err.stop c.in-Err.ensures.refused

pub returns-clause-refused : goal.returns-clause-refused
returns-clause-refused c =
    answer_map (RefusesFlat c.in-Ok.flat c.args.given.now) (λ (why : Reason). ModelTells c.args.text.now c.args.given.now (Err why))
    (λ why told. is_not_typed c.in-Ok.ensures.flat told) c.model_of.result c.model_of.ensures.refused
