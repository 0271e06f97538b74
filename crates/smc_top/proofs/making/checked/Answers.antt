-- What is asked is answered with two lines and the report of its run, and a stop with its refusal.
use Rattle.smc_top.proofs.AnswerLemmas.{of_each, of_both, ring_run_answers, ring_stop_answers}
use Rattle.smc_top.proofs.making.checked.Goals as goal

pub returns-in_ok-report-in-Ok : goal.returns-in_ok-report-in-Ok
returns-in_ok-report-in-Ok g c =
    of_both _ _ _ c.with_lines.result
    (λ report status bytes. ring_run_answers _ c.args.stations c.args.settings.now c.args.text.now c.in-Ok.asked c.in-Ok.ensures.asked c.in_ok-report-in-Ok.field-0 c.in_ok-report-in-Ok.ensures
    report status bytes)
    c.with_lines.ensures.status c.with_lines.ensures.bytes

pub returns-in-Err : goal.returns-in-Err
returns-in-Err g c =
    of_each _ _ c.stopped.result (ring_stop_answers _ c.args.stations c.args.settings.now c.args.text.now c.in-Err.stop c.in-Err.ensures.refused) c.stopped.ensures
