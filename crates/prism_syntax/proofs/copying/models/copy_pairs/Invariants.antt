use Rattle.std.proofs.Common.{◌≡◌, take}
use Rattle.prism_syntax.proofs.copying.models.copy_pairs.Given as goal

-- the copies so far
abbrev pub invariant-loop-pair : goal.invariant-loop-pair
invariant-loop-pair l = l.copies ≡ take l.pair-index l.pairs
