use Rattle.std.proofs.Common.{◌≡◌, List, ℕ, take, bytes_eq}
use Rattle.indexmap.specs.IndexMap.{get}
use Rattle.module_expand.specs.Renamed.{right_of, as_tree}
use Rattle.module_expand.proofs.renamings.new_trees.Given as goal

-- the right sides among the pairs so far, as trees
abbrev pub invariant-loop-left : goal.invariant-loop-left
invariant-loop-left l = (n : List ℕ) → get bytes_eq l.trees n ≡ as_tree (right_of (take l.left-index l.pairs)) n
