use Rattle.std.proofs.Common.{◌≡◌, ◌+◌, drop}
use Rattle.chain_model.specs.Sorts.{links_sort}
use Rattle.typed_trees.specs.Trees.{sorts_of}
use Rattle.typed_trees.proofs.sorts.links_sort.Given as goal

-- the sort so far, joined to those of the operands that are left, is that of the whole
abbrev pub invariant-loop-index : goal.invariant-loop-index
invariant-loop-index l =
    links_sort l.sort (sorts_of (drop (l.index + 1) l.operands)) (drop l.index l.operators)
    ≡ links_sort l.fn.first (sorts_of (drop 1 l.operands)) l.operators
