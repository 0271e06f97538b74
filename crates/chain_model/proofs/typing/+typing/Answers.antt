use Rattle.std.proofs.Common.{◌+◌, sym, ap, ◌∙◌, drop, map}
use Rattle.std.proofs.lemmas.List.{drop_all}
use Rattle.chain_model.specs.Sorts.{links_sort}
use Rattle.chain_model.specs.Typing.{sort_of}
use Rattle.chain_model.proofs.TypingLemmas.{links_sort_done}
use Rattle.chain_model.proofs.typing.+typing.Goals as goal

pub links_sort-returns : goal.links_sort-returns
links_sort-returns t c =
    sym (ap (links_sort c.loop-index.sort (map (sort_of c.args.vars.now c.args.labels) (drop (c.loop-index.index + 1) c.args.operands.now))) (drop_all c.loop-index.index c.args.operators.now c.loop-index-test.false)
    ∙ links_sort_done c.loop-index.sort (map (sort_of c.args.vars.now c.args.labels) (drop (c.loop-index.index + 1) c.args.operands.now)))
    ∙ c.loop-index.invariant
