use Rattle.std.proofs.Common.{◌≡◌, List, ℕ, take, bytes_eq}
use Rattle.std.specs.Option.{option_copied}
use Rattle.std.specs.List.{filter_map}
use Rattle.indexmap.specs.IndexMap.{get}
use Rattle.module_expand.specs.Renamed.{right_of}
use Rattle.module_expand.specs.Duplicates.{values}
use Rattle.module_expand.specs.Times.{Adds}
use Rattle.module_expand.proofs.repeated.count_new_names.Given as goal

-- the pairs so far have given their new names, and these are counted
abbrev pub invariant-loop-left : goal.invariant-loop-left
invariant-loop-left l = ((n : List ℕ) → option_copied (get bytes_eq l.names n) ≡ right_of (take l.left-index l.pairs) n)
    × Adds (get bytes_eq l.initial.counts) (get bytes_eq l.counts)
    (values (filter_map (right_of (take l.left-index l.pairs)) l.source))
