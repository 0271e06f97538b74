use Rattle.std.proofs.Common.{◌≡◌, map, take, bytes_eq}
use Rattle.indexmap.specs.IndexMap.{get}
use Rattle.module_expand.specs.Flat.{flat_module}
use Rattle.module_expand.proofs.flattening.flat_modules.Given as goal

-- the modules so far
abbrev pub invariant-loop-item : goal.invariant-loop-item
invariant-loop-item l = l.flat ≡ map (flat_module l.modules (get bytes_eq l.trees)) (take l.item-index l.modules)
