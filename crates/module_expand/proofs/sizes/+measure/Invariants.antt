use Rattle.std.proofs.Common.{map, take, bytes_eq, List, ℕ, Option}
use Rattle.indexmap.specs.IndexMap.{get}
use Rattle.prism_syntax.specs.declared.expressions.Expr.{Expr}
use Rattle.prism_syntax.specs.Replaced.{replaced}
use Rattle.module_expand.specs.Sizes.{IsSize, AreSizes}
use Rattle.module_expand.proofs.sizes.+measure.Given as goal

-- the size so far
abbrev pub invariant-measure_all-loop-expr : goal.invariant-measure_all-loop-expr
invariant-measure_all-loop-expr l = (by : List ℕ → Option Expr) → AreSizes (get bytes_eq l.sizes) by
    → IsSize l.total (map (replaced by) (take l.expr-index l.exprs))
