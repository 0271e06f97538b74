use Rattle.std.proofs.Common.{◌≡◌, ◌+◌, ◌≤◌, drop, map}
use Rattle.std.specs.Prelude.{sum}
use Rattle.trace_streams.specs.Draws.{draw_at}
use Rattle.chain_model.specs.Step.{branches_of, command_draws}
use Rattle.trace_meaning.proofs.ResultLemmas.{prepend}
use Rattle.trace_meaning.proofs.branches.branches.Given as goal

-- the branches so far, and those of the other commands, by the draws from where they stand
abbrev pub invariant-loop-command : goal.invariant-loop-command
invariant-loop-command l = record {
  same : prepend l.branches (branches_of l.chain (draw_at l.fn.draws.seed l.fn.draws.trace) l.state l.draws.place (drop l.command-index l.commands))
      ≡ branches_of l.chain (draw_at l.fn.draws.seed l.fn.draws.trace) l.state l.fn.draws.place l.commands;
  moves : l.draws.place + sum (map (command_draws l.chain) (drop l.command-index l.commands))
      ≡ l.fn.draws.place + sum (map (command_draws l.chain) l.commands);
  forward : l.fn.draws.place ≤ l.draws.place;
  near : l.draws.place ≤ l.fn.draws.place + l.command-index;
  stream : l.draws ≡ record l.fn.draws { place = l.draws.place };
}
