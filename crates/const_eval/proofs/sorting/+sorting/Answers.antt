-- Where no operator is left, the chain has its sort.
use Rattle.std.proofs.Common.{◌+◌, sym, ap, ◌∙◌, drop, map, bytes_eq}
use Rattle.std.proofs.lemmas.List.{drop_all}
use Rattle.indexmap.specs.IndexMap.{get}
use Rattle.chain_model.specs.Sorts.{links_sort}
use Rattle.chain_model.proofs.TypingLemmas.{links_sort_done}
use Rattle.const_eval.specs.Tables.{op_of}
use Rattle.const_eval.specs.Sorting.{sort_in}
use Rattle.const_eval.proofs.sorting.+sorting.Goals as goal

pub links_sort-returns : goal.links_sort-returns
links_sort-returns t c =
    let rest = map (sort_in (get bytes_eq c.args.sorts.now)) (drop (c.loop-index.index + 1) c.args.operands.now) in
    sym (ap (λ ops. links_sort c.loop-index.begun rest (map op_of ops)) (drop_all c.loop-index.index c.args.operators.now c.loop-index-test.false)
    ∙ links_sort_done c.loop-index.begun rest)
    ∙ c.loop-index.invariant
