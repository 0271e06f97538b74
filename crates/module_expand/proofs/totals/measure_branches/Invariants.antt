use Rattle.std.proofs.Common.{map, take, bytes_eq, List, ℕ, Option}
use Rattle.std.specs.List.{flat_map}
use Rattle.indexmap.specs.IndexMap.{get}
use Rattle.prism_syntax.specs.declared.expressions.Expr.{Expr}
use Rattle.prism_syntax.specs.Replaced.{replaced}
use Rattle.module_expand.specs.Listed.{branch_exprs}
use Rattle.module_expand.specs.Sizes.{IsSize, AreSizes}
use Rattle.module_expand.proofs.totals.measure_branches.Given as goal

-- the size so far
abbrev pub invariant-loop-branch : goal.invariant-loop-branch
invariant-loop-branch l = (by : List ℕ → Option Expr) → AreSizes (get bytes_eq l.sizes) by
    → IsSize l.total (map (replaced by) (flat_map branch_exprs (take l.branch-index l.branches)))
