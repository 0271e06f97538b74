-- The monitor was shown the pair so often, and nothing is settled.
use Rattle.one_trace.proofs.StandingLemmas.{HasStood}
use Rattle.one_trace.proofs.standing.stand.Given as goal

abbrev pub invariant-loop-turn : goal.invariant-loop-turn
invariant-loop-turn l = HasStood l.fn.monitor l.monitor (l.first, l.second) l._turn
