use Rattle.std.proofs.Common.{◌≡◌, ◌+◌, ◌≤◌, drop}
use Rattle.std.specs.Prelude.{sum}
use Rattle.trace_meaning.specs.Weights.{numerators_over}
use Rattle.trace_meaning.proofs.weights.add_up.Given as goal

-- the numerators so far, and those of the other weights
abbrev pub invariant-loop-weight : goal.invariant-loop-weight
invariant-loop-weight l = record {
  same : l.total + sum (numerators_over l.den (drop l.weight-index l.weights)) ≡ sum (numerators_over l.den l.weights);
  few : l.total ≤ l.den;
}
