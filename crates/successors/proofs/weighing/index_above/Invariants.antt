use Rattle.std.proofs.Common.{◌≡◌, ◌+◌, drop}
use Rattle.chain_model.specs.Step.{first_above}
use Rattle.successors.proofs.weighing.index_above.Given as goal

-- no threshold so far exceeds the draw
abbrev pub invariant-loop-index : goal.invariant-loop-index
invariant-loop-index l = l.index + first_above l.draw (drop l.index l.thresholds) ≡ first_above l.draw l.thresholds
