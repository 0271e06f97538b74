use Rattle.std.proofs.Common.{take, bytes_eq}
use Rattle.std.specs.List.{flat_map}
use Rattle.indexmap.specs.IndexMap.{get}
use Rattle.module_expand.specs.Groups.{stated}
use Rattle.module_expand.specs.Times.{Adds}
use Rattle.module_expand.proofs.repeated.count_groups.Given as goal

-- the groups so far are counted
abbrev pub invariant-loop-group : goal.invariant-loop-group
invariant-loop-group l = Adds (get bytes_eq l.initial.counts) (get bytes_eq l.counts)
    (flat_map stated (take l.group-index l.groups))
