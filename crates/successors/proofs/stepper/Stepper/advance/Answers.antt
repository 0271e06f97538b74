-- Without a choice the state stays.
use Rattle.std.proofs.Common.{[], refl}
use Rattle.trace_streams.specs.Draws.{draw_at}
use Rattle.successors.proofs.MoveLemmas.{next_stays}
use Rattle.successors.proofs.stepper.Stepper.advance.Goals as goal

pub returns-in-Nothing-clause-step : goal.returns-in-Nothing-clause-step
returns-in-Nothing-clause-step c =
    next_stays c.args.job.now.chain (draw_at c.args.draws.now.seed c.args.draws.now.trace) c.args.state.now c.args.draws.now.place [] c.in-Nothing.ensures.choices refl
