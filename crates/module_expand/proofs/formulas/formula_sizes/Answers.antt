use Rattle.std.proofs.Common.{bytes_eq, get_or}
use Rattle.indexmap.specs.IndexMap.{get}
use Rattle.module_expand.proofs.OrderLemmas.{at_place, at_number, order_within}
use Rattle.module_expand.proofs.FormulaLemmas.{sizes_more, sizes_all}
use Rattle.module_expand.proofs.formulas.formula_sizes.Goals as goal

pub loop-place-preserved : goal.loop-place-preserved
loop-place-preserved c = λ trees is.
    let k = c.loop-place.place-index in
    let formulas = c.args.formulas.now in
    let order = c.args.order.now in
    let old = get bytes_eq c.loop-place.sizes in
    sizes_more formulas trees order k (get_or order k 0) c.index-formulas-place.result old
    (get bytes_eq c.put.new.table) c.measure.result c.in_parens-size.result
    is c.requires.distinct c.requires.order (at_number order k c.loop-place-test.true)
    (at_place formulas (get_or order k 0) c.index-formulas-place.result
    (order_within formulas order k c.requires.order c.loop-place-test.true) c.index-formulas-place.is)
    c.measure.ensures c.in_parens-size.ensures.nodes c.in_parens-size.ensures.depth
    c.in_ok-put.ensures
    (c.loop-place.invariant trees is)

pub returns : goal.returns
returns c = λ trees is. sizes_all c.args.formulas.now trees c.args.order.now c.loop-place.place-index
    (get bytes_eq c.loop-place.sizes) is
    c.requires.order c.loop-place-test.false (c.loop-place.invariant trees is)
