use Rattle.std.proofs.Common.{◌≡◌, take, bytes_eq}
use Rattle.std.specs.Prelude.{None}
use Rattle.std.specs.List.{flat_map}
use Rattle.indexmap.specs.IndexMap.{get}
use Rattle.module_expand.specs.Groups.{stated}
use Rattle.module_expand.specs.Times.{first_twice}
use Rattle.module_expand.proofs.repeated.first_counted_twice.Given as goal

-- none of the declarations so far was counted more than once
abbrev pub invariant-loop-group : goal.invariant-loop-group
invariant-loop-group l = first_twice (get bytes_eq l.counts)
    (flat_map stated (take l.group-index l.declared)) ≡ None
