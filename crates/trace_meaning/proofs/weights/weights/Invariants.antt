use Rattle.std.proofs.Common.{◌≡◌, drop, All}
use Rattle.chain_model.specs.Step.{weights_of}
use Rattle.trace_meaning.specs.Weights.{IsWeight}
use Rattle.trace_meaning.proofs.ResultLemmas.{prepend}
use Rattle.trace_meaning.proofs.weights.weights.Given as goal

-- the weights so far, and those of the other branches
abbrev pub invariant-loop-arm : goal.invariant-loop-arm
invariant-loop-arm l = record {
  same : prepend l.weights (weights_of l.state l.fn.command (drop l.arm-index l.arms)) ≡ weights_of l.state l.fn.command l.arms;
  all : All IsWeight l.weights;
}
