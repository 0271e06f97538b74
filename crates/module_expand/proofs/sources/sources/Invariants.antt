use Rattle.std.proofs.Common.{◌≡◌, List, ℕ, take, bytes_eq}
use Rattle.std.specs.Prelude.{position}
use Rattle.indexmap.specs.IndexMap.{get}
use Rattle.module_expand.specs.Flat.{is_written_as}
use Rattle.module_expand.proofs.sources.sources.Given as goal

-- the first places among the modules so far
abbrev pub invariant-loop-place : goal.invariant-loop-place
invariant-loop-place l = (n : List ℕ) → get bytes_eq l.sources n ≡ position (is_written_as n) (take l.place l.modules)
