use Rattle.std.proofs.Common.{◌≡◌, drop}
use Rattle.chain_model.specs.Sorts.{extreme_sort}
use Rattle.typed_trees.specs.Trees.{sorts_of}
use Rattle.typed_trees.proofs.sorts.extreme_sort.Given as goal

-- the sort so far, joined to those of the parts that are left, is that of all
abbrev pub invariant-loop-index : goal.invariant-loop-index
invariant-loop-index l = extreme_sort l.sort (sorts_of (drop l.index l.parts)) ≡ extreme_sort l.fn.first (sorts_of (drop 1 l.parts))
