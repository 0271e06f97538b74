use Rattle.std.proofs.Common.{take, bytes_eq}
use Rattle.indexmap.specs.IndexMap.{get}
use Rattle.module_expand.specs.Expanded.{stands_for}
use Rattle.module_expand.specs.Sizes.{AreSizes}
use Rattle.module_expand.proofs.properties.body_sizes.Given as goal

-- the sizes of the trees of the formulas so far
abbrev pub invariant-loop-formula : goal.invariant-loop-formula
invariant-loop-formula l = AreSizes (get bytes_eq l.sizes) (stands_for (take l.formula-index l.formulas))
