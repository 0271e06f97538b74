use Rattle.std.proofs.Common.{◌≡◌, ◌+◌, map, drop, bytes_eq}
use Rattle.indexmap.specs.IndexMap.{get}
use Rattle.chain_model.specs.Sorts.{links_sort, extreme_sort}
use Rattle.const_eval.specs.Tables.{op_of}
use Rattle.const_eval.specs.Sorting.{sort_in}
use Rattle.const_eval.proofs.sorting.+sorting.Given as goal

-- the sort so far, joined to those of the parts that are left, is that of all
abbrev pub invariant-extreme_sort-loop-index : goal.invariant-extreme_sort-loop-index
invariant-extreme_sort-loop-index l =
    extreme_sort l.begun (map (sort_in (get bytes_eq l.sorts)) (drop l.index l.parts))
    ≡ extreme_sort l.fn.first (map (sort_in (get bytes_eq l.sorts)) (drop 1 l.parts))

abbrev pub invariant-links_sort-loop-index : goal.invariant-links_sort-loop-index
invariant-links_sort-loop-index l =
    links_sort l.begun (map (sort_in (get bytes_eq l.sorts)) (drop (l.index + 1) l.operands)) (map op_of (drop l.index l.operators))
    ≡ links_sort l.fn.first (map (sort_in (get bytes_eq l.sorts)) (drop 1 l.operands)) (map op_of l.operators)
