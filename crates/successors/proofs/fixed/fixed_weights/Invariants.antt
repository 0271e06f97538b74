use Rattle.std.proofs.Common.{take}
use Rattle.std.specs.Prelude.{All}
use Rattle.trace_meaning.specs.Weights.{IsWeight}
use Rattle.successors.specs.Weighing.{AreFixedWeights}
use Rattle.successors.proofs.fixed.fixed_weights.Given as goal

-- the weights so far
abbrev pub invariant-loop-node : goal.invariant-loop-node
invariant-loop-node l = record {
  value : AreFixedWeights (take l.node-index l.nodes) l.weights;
  weights : All IsWeight l.weights;
}
