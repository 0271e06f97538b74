-- The work is one of the job.
use Rattle.one_trace.specs.Work.{IsMadeFor}
use Rattle.one_trace.proofs.tests.are_thrown.Given as goal

abbrev pub invariant-loop-trace : goal.invariant-loop-trace
invariant-loop-trace l = IsMadeFor l.job l.work
