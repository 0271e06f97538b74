use Rattle.std.proofs.Common.{take}
use Rattle.successors.specs.Sides.{AreSides}
use Rattle.successors.proofs.sides.sides.Given as goal

-- the sides so far
abbrev pub invariant-loop-set : goal.invariant-loop-set
invariant-loop-set l = AreSides l.chain (take l.set-index l.sets) l.sides
