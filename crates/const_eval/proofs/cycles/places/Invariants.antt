use Rattle.std.proofs.Common.{◌≡◌, map, take, bytes_eq}
use Rattle.std.specs.Prelude.{position}
use Rattle.std.specs.List.{filter_map}
use Rattle.indexmap.specs.IndexMap.{keys}
use Rattle.const_eval.proofs.cycles.places.Given as goal

-- the places of the names so far
abbrev pub invariant-loop-name : goal.invariant-loop-name
invariant-loop-name l = l.places ≡ filter_map (λ name. position (bytes_eq name) (keys l.sorts)) (map (λ name. name.now) (take l.name-index l.names))
