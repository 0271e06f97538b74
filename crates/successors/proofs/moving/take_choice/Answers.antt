-- A step is what follows the commands of its choice.
use Rattle.std.proofs.Common.{◌∙◌, length, take, ap, arith}
use Rattle.guard_code.proofs.RunLemmas.{small_state}
use Rattle.trace_streams.specs.Draws.{Place, draw_at}
use Rattle.successors.specs.Moves.{came}
use Rattle.successors.proofs.GuardLemmas.{written}
use Rattle.successors.proofs.MoveLemmas.{came_of_choice, keeps}
use Rattle.successors.proofs.moving.take_choice.Goals as goal

pub take_commands-requires-clause-small : goal.take_commands-requires-clause-small
take_commands-requires-clause-small c = small_state c.args.chain.now c.args.state.now c.requires.state

pub returns-clause-step : goal.returns-clause-step
returns-clause-step c =
    came_of_choice c.args.chain.now (draw_at c.args.draws.now.seed c.args.draws.now.trace) (draw_at c.choose-size.new.draws.seed c.choose-size.new.draws.trace) c.args.state.now
    c.args.draws.now.place c.choose-size.new.draws.place (take c.choose-size.result c.choose-size.new.chosen) _ (came c.take_commands.result c.take_commands.new.state c.take_commands.new.draws.place)
    c.choose-size.ensures.value (ap (λ (p : Place). draw_at p.seed p.trace) c.choose-size.ensures.moves) (ap (take c.choose-size.result) (c.deref.ensures.value
    ∙ written c.args.room.now.chosen.len c.choose-size.new.chosen _ (omega (arith, c.choose-size.auto.chosen, c.deref_mut.ensures.len, ap length c.deref_mut.ensures.value, c.args.room.now.chosen.ok.0)))) c.take_commands.ensures.step

pub returns-clause-keeps : goal.returns-clause-keeps
returns-clause-keeps c =
    keeps c.args.chain.now (draw_at c.args.draws.now.seed c.args.draws.now.trace) c.args.state.now c.take_commands.new.state c.args.draws.now.place c.take_commands.new.draws.place c.take_commands.result
    c.requires.state (returns-clause-step c) c.take_commands.ensures.stays
