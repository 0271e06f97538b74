-- The trace is underway, at the state of the number or at the one that is written out.
use Rattle.std.proofs.Common.{◌≡◌}
use Rattle.one_trace.specs.Visits.{IsUnderwayAt}
use Rattle.one_trace.specs.Work.{IsMadeFor}
use Rattle.one_trace.proofs.trace.outcome.Given as goal

abbrev pub invariant-loop-step : goal.invariant-loop-step
invariant-loop-step l = record {
  underway : IsUnderwayAt l.job l.draws.trace l.step l.monitor l.work.known.table.states l.number l.work.state.items l.draws;
  same : l.draws.trace ≡ l.trace;
  work : IsMadeFor l.job l.work;
}
