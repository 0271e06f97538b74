use Rattle.std.proofs.Common.{take}
use Rattle.successors.specs.Plain.{HaveTruth}
use Rattle.successors.proofs.plain.have_truth.Given as goal

-- the nodes so far have a truth value
abbrev pub invariant-loop-node : goal.invariant-loop-node
invariant-loop-node l = HaveTruth (take l.node-index l.nodes)
