use Rattle.std.proofs.Common.{◌≡◌, length, map, take}
use Rattle.guard_code.specs.Means.{AllMean}
use Rattle.successors.proofs.commands.weight_nodes.Given as goal

-- the nodes so far
abbrev pub invariant-loop-arm : goal.invariant-loop-arm
invariant-loop-arm l = record {
  means : AllMean l.nodes (map (λ arm. arm.weight) (take l.arm-index l.arms));
  long : length l.nodes ≡ l.arm-index;
}
