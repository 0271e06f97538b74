use Rattle.std.proofs.Common.{bytes_eq, get_or, refl}
use Rattle.indexmap.specs.IndexMap.{get}
use Rattle.prism_syntax.specs.declared.expressions.Expr.TheVariants as e
use Rattle.prism_syntax.specs.Replaced.{replaced}
use Rattle.module_expand.proofs.OrderLemmas.{at_place, at_number, order_within}
use Rattle.module_expand.proofs.FormulaLemmas.{trees_more, trees_all}
use Rattle.module_expand.proofs.formulas.formula_trees.Goals as goal

pub loop-place-preserved : goal.loop-place-preserved
loop-place-preserved c = λ trees is.
    let k = c.loop-place.place-index in
    let formulas = c.args.formulas.now in
    let order = c.args.order.now in
    let old = get bytes_eq c.loop-place.trees in
    let f = c.index-formulas-place.result in
    trees_more formulas trees order k (get_or order k 0) f old
    (get bytes_eq c.put_tree.new.trees) (e.Paren (replaced old f.body))
    is c.requires.distinct c.requires.order (at_number order k c.loop-place-test.true)
    (at_place formulas (get_or order k 0) f
    (order_within formulas order k c.requires.order c.loop-place-test.true) c.index-formulas-place.is)
    refl c.in_ok-put_tree.ensures (c.loop-place.invariant trees is)

pub returns : goal.returns
returns c = λ trees is. trees_all c.args.formulas.now trees c.args.order.now c.loop-place.place-index
    (get bytes_eq c.loop-place.trees) is
    c.requires.order c.loop-place-test.false (c.loop-place.invariant trees is)
