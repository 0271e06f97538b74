use Rattle.std.proofs.Common.{◌≡◌, List, ℕ, unwrap_or, count_by, map, take, bytes_eq}
use Rattle.indexmap.specs.IndexMap.{get}
use Rattle.prism_names.proofs.repeated.count_names.Given as goal

-- each name has been counted so far
abbrev pub invariant-loop-name : goal.invariant-loop-name
invariant-loop-name l =
    (n : List ℕ) → unwrap_or (get bytes_eq l.counts n) 0 ≡ count_by (λ other. bytes_eq other n) (map (λ name. name.now) (take l.name-index l.names))
