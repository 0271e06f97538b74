use Rattle.std.proofs.Common.{map, take, bytes_eq, List, ℕ, Option}
use Rattle.indexmap.specs.IndexMap.{get}
use Rattle.prism_syntax.specs.declared.expressions.Expr.{Expr}
use Rattle.prism_syntax.specs.Replaced.{replaced}
use Rattle.module_expand.specs.Sizes.{IsSize, AreSizes}
use Rattle.module_expand.proofs.totals.measure_bodies.Given as goal

-- the size so far
abbrev pub invariant-loop-named : goal.invariant-loop-named
invariant-loop-named l = (by : List ℕ → Option Expr) → AreSizes (get bytes_eq l.sizes) by
    → IsSize l.total (map (λ x. replaced by x.body) (take l.named-index l.all))
