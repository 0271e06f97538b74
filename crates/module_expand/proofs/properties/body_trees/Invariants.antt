use Rattle.std.proofs.Common.{◌≡◌, take, bytes_eq, List, ℕ}
use Rattle.indexmap.specs.IndexMap.{get}
use Rattle.module_expand.specs.Expanded.{stands_for}
use Rattle.module_expand.proofs.properties.body_trees.Given as goal

-- the trees of the formulas so far
abbrev pub invariant-loop-formula : goal.invariant-loop-formula
invariant-loop-formula l = (n : List ℕ) → get bytes_eq l.trees n ≡ stands_for (take l.formula-index l.formulas) n
