use Rattle.std.proofs.Common.{map, take, bytes_eq, List, ℕ, Option}
use Rattle.std.specs.List.{flat_map}
use Rattle.indexmap.specs.IndexMap.{get}
use Rattle.prism_syntax.specs.declared.expressions.Expr.{Expr}
use Rattle.module_expand.specs.Flat.{flat_module}
use Rattle.module_expand.specs.Listed.{module_exprs}
use Rattle.module_expand.specs.Sizes.{IsSize, AreSizes}
use Rattle.module_expand.proofs.totals.measure_modules.Given as goal

-- the size of the modules so far
abbrev pub invariant-loop-place : goal.invariant-loop-place
invariant-loop-place l = (by : List ℕ → Option Expr) → AreSizes (get bytes_eq l.sizes) by
    → IsSize l.total (flat_map module_exprs (map (flat_module l.modules by) (take l.place l.modules)))
