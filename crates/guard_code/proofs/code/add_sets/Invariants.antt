use Rattle.std.proofs.Common.{map, take}
use Rattle.guard_code.specs.Means.{Adds}
use Rattle.guard_code.proofs.code.add_sets.Given as goal

-- the right sides so far
abbrev pub invariant-loop-set : goal.invariant-loop-set
invariant-loop-set l = Adds l.fn.nodes l.nodes (map (λ set. set.1) (take l.set-index l.sets))
