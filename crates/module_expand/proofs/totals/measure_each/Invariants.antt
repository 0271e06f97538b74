use Rattle.std.proofs.Common.{◌≡◌, length, take, bytes_eq, List, ℕ, Option}
use Rattle.indexmap.specs.IndexMap.{get}
use Rattle.prism_syntax.specs.declared.expressions.Expr.{Expr}
use Rattle.module_expand.specs.Sizes.{AreSizes, AreSizesOfEach}
use Rattle.module_expand.proofs.totals.measure_each.Given as goal

-- the sizes of the modules so far
abbrev pub invariant-loop-item : goal.invariant-loop-item
invariant-loop-item l = (length l.each.items ≡ l.item-index)
    × ((by : List ℕ → Option Expr) → AreSizes (get bytes_eq l.sizes) by
    → AreSizesOfEach by (take l.item-index l.modules) l.each.items)
