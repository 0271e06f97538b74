-- `make` is answered over any text.
use Rattle.smc_top.proofs.AnswerLemmas.{over_settings}
use Rattle.smc_top.proofs.answering.answer.Goals as goal

pub returns-in-Make : goal.returns-in-Make
returns-in-Make g c = over_settings _ c.args.settings.now _ c.args.text.now c.make.result c.in-Make.is (c.make.ensures c.args.text.now)
