use Rattle.std.proofs.Common.{◌≡◌, ◌+◌, ◌≤◌, drop}
use Rattle.chain_model.specs.Step.{first_above, running_sums}
use Rattle.trace_meaning.specs.Weights.{numerators_over}
use Rattle.trace_meaning.proofs.weights.index_above.Given as goal

-- no running sum so far exceeds the number
abbrev pub invariant-loop-index : goal.invariant-loop-index
invariant-loop-index l = record {
  same : l.index + first_above l.picked (running_sums l.sum (numerators_over l.den (drop l.index l.weights)))
      ≡ first_above l.picked (running_sums 0 (numerators_over l.den l.weights));
  low : l.sum ≤ l.picked;
}
