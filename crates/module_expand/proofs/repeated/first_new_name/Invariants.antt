use Rattle.std.proofs.Common.{◌≡◌, take, bytes_eq}
use Rattle.std.specs.Prelude.{None}
use Rattle.std.specs.Option.{option_copied, option_to_list}
use Rattle.std.specs.List.{flat_map}
use Rattle.indexmap.specs.IndexMap.{get}
use Rattle.module_expand.specs.Duplicates.{values}
use Rattle.module_expand.specs.Times.{first_twice}
use Rattle.module_expand.proofs.repeated.first_new_name.Given as goal

-- none of the new names so far was counted more than once
abbrev pub invariant-loop-variable : goal.invariant-loop-variable
invariant-loop-variable l = first_twice (get bytes_eq l.counts)
    (flat_map (λ v. values (option_to_list (option_copied (get bytes_eq l.names v.name))))
    (take l.variable-index l.variables)) ≡ None
