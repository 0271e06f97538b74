-- A model is answered with the report of its trace, and a stop with its refusal.
use Rattle.std.proofs.Common.{◌≡◌, sym, subst}
use Rattle.smc_settings.specs.declared.commands.Settings.{Settings}
use Rattle.front_end.specs.Stops.{StopTells}
use Rattle.smc_top.specs.Asked.{Refuses}
use Rattle.smc_top.proofs.AnswerLemmas.{of_each, trace_answers, stop_answers}
use Rattle.smc_top.proofs.tracing.trace.Goals as goal

pub returns-in-Ok : goal.returns-in-Ok
returns-in-Ok c = λ watched.
    let read = rw c.as_slice.ensures at c.in-Ok.ensures.model in
    of_each _ _ c.traced_model.result
    (trace_answers watched c.args.settings.now c.args.text.now c.in-Trace.model c.in-Trace.given c.in-Trace.seed c.in-Trace.index c.in-Trace.steps c.in-Ok.model c.in-Trace.is read) c.traced_model.ensures

pub returns-in-Err : goal.returns-in-Err
returns-in-Err c = λ watched.
    let told = rw c.as_slice.ensures at c.in-Err.ensures.refused in
    let refuses = subst (λ (s : Settings). StopTells (Refuses s c.args.text.now) c.in-Err.stop) (sym c.in-Trace.is) told in
    of_each _ _ c.stopped.result (stop_answers watched c.args.settings.now c.args.text.now c.in-Err.stop refuses) c.stopped.ensures
