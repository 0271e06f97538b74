-- The command that was found is the choice, where it is the only one.
use Rattle.trace_streams.specs.Draws.{draw_at}
use Rattle.successors.proofs.SoleLemmas.{sole_made, sole_taken, sole_is_some}
use Rattle.successors.proofs.moving.try_move.Goals as goal

pub take_only-requires-clause-taken : goal.take_only-requires-clause-taken
take_only-requires-clause-taken c =
    sole_taken c.args.chain.now (draw_at c.args.draws.now.seed c.args.draws.now.trace) c.args.state.now c.args.draws.now.place c.in-Some.command
    (sole_made c.args.chain.now c.args.state.now c.args.lane c.in-Some.command c.args.enabled.now c.args.found c.requires.guards c.requires.found
    c.in-Some.ensures.0 c.in-Some.ensures.1 c.in-Some.ensures.2)

pub returns-in-Ok-clause-stayed : goal.returns-in-Ok-clause-stayed
returns-in-Ok-clause-stayed c = (
  λ same. absurd (cc),
  λ none. absurd (sole_is_some c.args.chain.now c.args.state.now c.in-Some.command
      (sole_made c.args.chain.now c.args.state.now c.args.lane c.in-Some.command c.args.enabled.now c.args.found c.requires.guards c.requires.found
      c.in-Some.ensures.0 c.in-Some.ensures.1 c.in-Some.ensures.2) none),
)

pub returns-in-Err-clause-stayed : goal.returns-in-Err-clause-stayed
returns-in-Err-clause-stayed c = (
  λ same. absurd (cc),
  λ none. absurd (sole_is_some c.args.chain.now c.args.state.now c.in-Some.command
      (sole_made c.args.chain.now c.args.state.now c.args.lane c.in-Some.command c.args.enabled.now c.args.found c.requires.guards c.requires.found
      c.in-Some.ensures.0 c.in-Some.ensures.1 c.in-Some.ensures.2) none),
)
