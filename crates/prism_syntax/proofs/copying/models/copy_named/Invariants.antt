use Rattle.std.proofs.Common.{◌≡◌, take}
use Rattle.prism_syntax.proofs.copying.models.copy_named.Given as goal

-- the copies so far
abbrev pub invariant-loop-named : goal.invariant-loop-named
invariant-loop-named l = l.copies ≡ take l.named-index l.all
