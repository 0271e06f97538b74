use Rattle.std.proofs.Common.{◌≡◌, ◌+◌, map, drop}
use Rattle.chain_model.specs.Sorts.{links_sort, extreme_sort}
use Rattle.chain_model.specs.Typing.{sort_of}
use Rattle.chain_model.proofs.typing.+typing.Given as goal

-- the sort so far, joined to those of the parts that are left, is that of all
abbrev pub invariant-extreme_sort-loop-index : goal.invariant-extreme_sort-loop-index
invariant-extreme_sort-loop-index l =
    extreme_sort l.sort (map (sort_of l.vars l.labels) (drop l.index l.parts)) ≡ extreme_sort l.fn.first (map (sort_of l.vars l.labels) (drop 1 l.parts))

abbrev pub invariant-links_sort-loop-index : goal.invariant-links_sort-loop-index
invariant-links_sort-loop-index l =
    links_sort l.sort (map (sort_of l.vars l.labels) (drop (l.index + 1) l.operands)) (drop l.index l.operators)
    ≡ links_sort l.fn.first (map (sort_of l.vars l.labels) (drop 1 l.operands)) l.operators
