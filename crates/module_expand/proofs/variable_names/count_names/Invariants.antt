use Rattle.std.proofs.Common.{map, take, bytes_eq}
use Rattle.indexmap.specs.IndexMap.{get}
use Rattle.module_expand.specs.Times.{AreCounted}
use Rattle.module_expand.proofs.variable_names.count_names.Given as goal

-- the names so far are counted
abbrev pub invariant-loop-variable : goal.invariant-loop-variable
invariant-loop-variable l = AreCounted (map (λ v. v.name) (take l.variable-index l.variables)) (get bytes_eq l.times)
