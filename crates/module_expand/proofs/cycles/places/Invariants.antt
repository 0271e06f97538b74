use Rattle.std.proofs.Common.{◌≡◌, List, ℕ, take, bytes_eq}
use Rattle.indexmap.specs.IndexMap.{get}
use Rattle.module_expand.specs.Refusals.{place_of}
use Rattle.module_expand.proofs.cycles.places.Given as goal

-- the first places among the formulas so far
abbrev pub invariant-loop-place : goal.invariant-loop-place
invariant-loop-place l = (n : List ℕ) → get bytes_eq l.places n ≡ place_of (take l.place l.formulas) n
