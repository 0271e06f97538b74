use Rattle.std.proofs.Common.{◌+◌, sym, ap, ◌∙◌, drop}
use Rattle.std.proofs.lemmas.List.{drop_all}
use Rattle.chain_model.specs.Sorts.{links_sort}
use Rattle.typed_trees.specs.Trees.{sorts_of}
use Rattle.typed_trees.proofs.PartLemmas.{links_sort-done}
use Rattle.typed_trees.proofs.sorts.links_sort.Goals as goal

pub returns : goal.returns
returns c =
    sym (ap (links_sort c.loop-index.sort (sorts_of (drop (c.loop-index.index + 1) c.args.operands.now))) (drop_all c.loop-index.index c.args.operators.now c.loop-index-test.false)
    ∙ links_sort-done c.loop-index.sort (sorts_of (drop (c.loop-index.index + 1) c.args.operands.now)))
    ∙ c.loop-index.invariant
