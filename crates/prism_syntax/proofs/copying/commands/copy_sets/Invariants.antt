use Rattle.std.proofs.Common.{◌≡◌, take}
use Rattle.prism_syntax.proofs.copying.commands.copy_sets.Given as goal

-- the copies so far
abbrev pub invariant-loop-set : goal.invariant-loop-set
invariant-loop-set l = l.copies ≡ take l.set-index l.sets
