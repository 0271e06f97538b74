use Rattle.std.proofs.Common.{List, take, bytes_eq}
use Rattle.indexmap.specs.IndexMap.{get}
use Rattle.prism_syntax.specs.declared.models.Named.{Named}
use Rattle.module_expand.specs.Expanded.{AreExpanded}
use Rattle.module_expand.proofs.OrderLemmas.{Knows}
use Rattle.module_expand.proofs.FormulaLemmas.{size_told}
use Rattle.module_expand.proofs.formulas.formula_sizes.Given as goal

-- the sizes of the trees of the formulas so far
abbrev pub invariant-loop-place : goal.invariant-loop-place
invariant-loop-place l = (trees : List Named) → AreExpanded l.formulas trees → Knows l.formulas (size_told trees)
    (get bytes_eq l.sizes) (take l.place-index l.order)
