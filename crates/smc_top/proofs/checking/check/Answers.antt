-- What is asked is answered with the report of its run, and a stop with its refusal.
use Rattle.smc_top.proofs.AnswerLemmas.{of_each, run_answers, stop_answers}
use Rattle.smc_top.proofs.checking.check.Goals as goal

pub returns-in-Ok : goal.returns-in-Ok
returns-in-Ok g c =
    of_each _ _ c.sampled-answer.result (run_answers _ c.args.settings.now c.args.text.now c.in-Ok.asked c.requires.check c.in-Ok.ensures.asked) c.sampled-answer.ensures

pub returns-in-Err : goal.returns-in-Err
returns-in-Err g c =
    of_each _ _ c.stopped.result (stop_answers _ c.args.settings.now c.args.text.now c.in-Err.stop c.in-Err.ensures.refused) c.stopped.ensures
