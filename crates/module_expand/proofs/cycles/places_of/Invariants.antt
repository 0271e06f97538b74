use Rattle.std.proofs.Common.{◌≡◌, map, take, bytes_eq}
use Rattle.std.specs.List.{filter_map}
use Rattle.indexmap.specs.IndexMap.{get}
use Rattle.module_expand.proofs.cycles.places_of.Given as goal

-- the places so far
abbrev pub invariant-loop-name : goal.invariant-loop-name
invariant-loop-name l = l.uses ≡ filter_map (get bytes_eq l.places) (map (λ n. n.now) (take l.name-index l.names))
