use Rattle.chain_model.proofs.DrawLemmas.{choices_few, step_draws_few}
use Rattle.chain_model.proofs.laws.steps_draw_few.Goals as goal

pub returns-clause-commands : goal.returns-clause-commands
returns-clause-commands c chain state choices made choice within = choices_few chain state choices made choice within

pub returns-clause-draws : goal.returns-clause-draws
returns-clause-draws c chain draw from = step_draws_few chain draw from
