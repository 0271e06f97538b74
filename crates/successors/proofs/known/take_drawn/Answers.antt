-- A step is what follows the commands of the choice that was drawn.
use Rattle.std.proofs.Common.{refl, ap}
use Rattle.guard_code.proofs.RunLemmas.{small_state}
use Rattle.trace_streams.specs.Draws.{Place, draw_at}
use Rattle.successors.specs.Moves.{came}
use Rattle.successors.proofs.MoveLemmas.{came_of_choice, keeps}
use Rattle.successors.proofs.known.take_drawn.Goals as goal

pub take_commands-requires-clause-small : goal.take_commands-requires-clause-small
take_commands-requires-clause-small c = small_state c.args.chain.now c.args.state.now c.requires.state

pub returns-clause-step : goal.returns-clause-step
returns-clause-step c =
    came_of_choice c.args.chain.now (draw_at c.args.draws.now.seed c.args.draws.now.trace)
    (draw_at c.drawn_choice-chosen.new.draws.seed c.drawn_choice-chosen.new.draws.trace) c.args.state.now c.args.draws.now.place
    c.drawn_choice-chosen.new.draws.place c.drawn_choice-chosen.result.now c.drawn_choice-chosen.result.now
    (came c.take_commands.result c.take_commands.new.state c.take_commands.new.draws.place) c.drawn_choice-chosen.ensures.taken
    (ap (λ (p : Place). draw_at p.seed p.trace) c.drawn_choice-chosen.ensures.moves) refl c.take_commands.ensures.step

pub returns-clause-keeps : goal.returns-clause-keeps
returns-clause-keeps c =
    keeps c.args.chain.now (draw_at c.args.draws.now.seed c.args.draws.now.trace) c.args.state.now c.take_commands.new.state c.args.draws.now.place
    c.take_commands.new.draws.place c.take_commands.result c.requires.state (returns-clause-step c) c.take_commands.ensures.stays
