use Rattle.std.proofs.Common.{◌≡◌, map, take, bytes_eq}
use Rattle.std.specs.Option.{option_copied}
use Rattle.indexmap.specs.IndexMap.{get}
use Rattle.module_expand.specs.Renamed.{copied_set}
use Rattle.module_expand.proofs.copies.copy_sets.Given as goal

-- the copies so far
abbrev pub invariant-loop-set : goal.invariant-loop-set
invariant-loop-set l = l.copies ≡ map (copied_set (λ n. option_copied (get bytes_eq l.names n))
    (get bytes_eq l.trees)) (take l.set-index l.sets)
