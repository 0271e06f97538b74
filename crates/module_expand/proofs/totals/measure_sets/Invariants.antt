use Rattle.std.proofs.Common.{map, take, bytes_eq, List, ℕ, Option}
use Rattle.indexmap.specs.IndexMap.{get}
use Rattle.prism_syntax.specs.declared.expressions.Expr.{Expr}
use Rattle.prism_syntax.specs.Replaced.{replaced}
use Rattle.module_expand.specs.Sizes.{IsSize, AreSizes}
use Rattle.module_expand.proofs.totals.measure_sets.Given as goal

-- the size so far
abbrev pub invariant-loop-set : goal.invariant-loop-set
invariant-loop-set l = (by : List ℕ → Option Expr) → AreSizes (get bytes_eq l.sizes) by
    → IsSize l.total (map (λ x. replaced by x.1) (take l.set-index l.sets))
