use Rattle.std.proofs.Common.{◌≤◌}
use Rattle.successors.proofs.tests.draws_from.Given as goal

-- no more draws are taken than steps were made
abbrev pub invariant-loop-step : goal.invariant-loop-step
invariant-loop-step l = l.draws.place ≤ l.step
