use Rattle.std.proofs.Common.{take}
use Rattle.std.specs.Prelude.{flat_map}
use Rattle.guard_code.specs.Codes.{branch_expressions}
use Rattle.guard_code.specs.Means.{Adds}
use Rattle.guard_code.proofs.code.add_branches.Given as goal

-- the branches so far
abbrev pub invariant-loop-arm : goal.invariant-loop-arm
invariant-loop-arm l = Adds l.fn.nodes l.nodes (flat_map branch_expressions (take l.arm-index l.arms))
