-- The ring is answered with what is answered on its text.
use Rattle.std.proofs.Common.{◌∙◌}
use Rattle.smc_top.proofs.AnswerLemmas.{of_each, ring_answers}
use Rattle.smc_top.proofs.making.make.Goals as goal

pub returns : goal.returns
returns g c = λ text.
    of_each _ _ c.checked-answer.result
    (ring_answers _ c.args.stations c.args.seed c.args.workers c.in_ok-settings.settings c.as_slice.result.now text c.in_ok-settings.ensures (c.as_slice.ensures.value ∙ c.in_ok-text.ensures))
    c.checked-answer.ensures
