-- A text that is refused is answered with its refusal.
use Rattle.smc_settings.specs.declared.commands.Settings.TheVariants as command
use Rattle.smc_top.proofs.AnswerLemmas.{of_each, stop_answers}
use Rattle.smc_top.proofs.expanding.expand.Goals as goal

pub returns-in-Err : goal.returns-in-Err
returns-in-Err c = λ watched model.
    of_each _ _ c.stopped.result (stop_answers watched (command.Expand model) c.args.text.now c.in-Err.stop c.in-Err.ensures.refused) c.stopped.ensures
