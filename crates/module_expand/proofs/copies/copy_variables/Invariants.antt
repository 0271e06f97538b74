use Rattle.std.proofs.Common.{◌≡◌, map, take, bytes_eq}
use Rattle.std.specs.Option.{option_copied}
use Rattle.indexmap.specs.IndexMap.{get}
use Rattle.module_expand.specs.Renamed.{copied_variable}
use Rattle.module_expand.proofs.copies.copy_variables.Given as goal

-- the copies so far
abbrev pub invariant-loop-variable : goal.invariant-loop-variable
invariant-loop-variable l = l.copies ≡ map (copied_variable (λ n. option_copied (get bytes_eq l.names n))
    (get bytes_eq l.trees)) (take l.variable-index l.variables)
