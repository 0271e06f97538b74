use Rattle.std.proofs.Common.{◌≡◌, drop, take}
use Rattle.std.specs.Prelude.{All}
use Rattle.trace_meaning.specs.Weights.{IsWeight}
use Rattle.trace_meaning.proofs.ResultLemmas.{prepend}
use Rattle.successors.specs.Weighing.{node_weights}
use Rattle.successors.proofs.weighing.write_weights.Given as goal

-- the weights so far, and those of the other nodes
abbrev pub invariant-loop-index : goal.invariant-loop-index
invariant-loop-index l = record {
  same : prepend (take l.index l.weights) (node_weights l.state l.fn.command (drop l.index l.nodes)) ≡ node_weights l.state l.fn.command l.nodes;
  all : All IsWeight (take l.index l.weights);
}
