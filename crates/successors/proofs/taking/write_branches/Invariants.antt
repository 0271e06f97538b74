use Rattle.std.proofs.Common.{◌≡◌, ◌+◌, ◌≤◌, drop, map, take}
use Rattle.std.specs.Prelude.{sum}
use Rattle.trace_streams.specs.Draws.{draw_at}
use Rattle.chain_model.specs.Step.{branches_of, command_draws}
use Rattle.trace_meaning.proofs.ResultLemmas.{prepend}
use Rattle.successors.proofs.taking.write_branches.Given as goal

-- the branches so far, and those of the other commands, by the draws from where they stand
abbrev pub invariant-loop-index : goal.invariant-loop-index
invariant-loop-index l = record {
  same : prepend (take l.index l.branches) (branches_of l.chain (draw_at l.fn.draws.seed l.fn.draws.trace) l.state l.draws.place (drop l.index l.chosen))
      ≡ branches_of l.chain (draw_at l.fn.draws.seed l.fn.draws.trace) l.state l.fn.draws.place l.chosen;
  moves : l.draws.place + sum (map (command_draws l.chain) (drop l.index l.chosen))
      ≡ l.fn.draws.place + sum (map (command_draws l.chain) l.chosen);
  forward : l.fn.draws.place ≤ l.draws.place;
  near : l.draws.place ≤ l.fn.draws.place + l.index;
  stream : l.draws ≡ record l.fn.draws { place = l.draws.place };
}
