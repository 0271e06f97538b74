use Rattle.std.proofs.Common.{map, take, bytes_eq, List, ℕ, Option}
use Rattle.std.specs.List.{flat_map}
use Rattle.indexmap.specs.IndexMap.{get}
use Rattle.prism_syntax.specs.declared.expressions.Expr.{Expr}
use Rattle.prism_syntax.specs.Replaced.{replaced}
use Rattle.module_expand.specs.Listed.{variable_exprs}
use Rattle.module_expand.specs.Sizes.{IsSize, AreSizes}
use Rattle.module_expand.proofs.totals.measure_variables.Given as goal

-- the size so far
abbrev pub invariant-loop-variable : goal.invariant-loop-variable
invariant-loop-variable l = (by : List ℕ → Option Expr) → AreSizes (get bytes_eq l.sizes) by
    → IsSize l.total (map (replaced by) (flat_map variable_exprs (take l.variable-index l.variables)))
