use Rattle.std.proofs.Common.{take}
use Rattle.successors.specs.Commands.{AreArms}
use Rattle.successors.proofs.commands.arms_of.Given as goal

-- the lists so far
abbrev pub invariant-loop-arm : goal.invariant-loop-arm
invariant-loop-arm l = AreArms l.chain (take l.arm-index l.arms) l.lists
