use Rattle.std.proofs.Common.{◌≡◌, take}
use Rattle.typed_trees.proofs.copying.+copy.Given as goal

-- the trees so far
abbrev pub invariant-copy_all-loop-tree : goal.invariant-copy_all-loop-tree
invariant-copy_all-loop-tree l = l.others ≡ take l.tree-index l.trees
