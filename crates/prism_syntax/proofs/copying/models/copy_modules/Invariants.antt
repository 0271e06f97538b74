use Rattle.std.proofs.Common.{◌≡◌, take}
use Rattle.prism_syntax.proofs.copying.models.copy_modules.Given as goal

-- the copies so far
abbrev pub invariant-loop-module : goal.invariant-loop-module
invariant-loop-module l = l.copies ≡ take l.module-index l.modules
