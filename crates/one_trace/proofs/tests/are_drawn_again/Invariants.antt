-- The work is one of the job.
use Rattle.one_trace.specs.Work.{IsMadeFor}
use Rattle.one_trace.proofs.tests.are_drawn_again.Given as goal

abbrev pub invariant-loop-turn : goal.invariant-loop-turn
invariant-loop-turn l = IsMadeFor l.job l.work

abbrev pub invariant-loop-trace : goal.invariant-loop-trace
invariant-loop-trace l = IsMadeFor l.job l.work
