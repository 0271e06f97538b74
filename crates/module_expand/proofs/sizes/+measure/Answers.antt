use Rattle.std.proofs.Common.{◌∷◌, [], subst}
use Rattle.prism_syntax.specs.Replaced.{replaced}
use Rattle.module_expand.specs.Sizes.{IsSize}
use Rattle.module_expand.proofs.TreeLemmas.{replaced-paren, replaced-not, replaced-minus, replaced-if}
use Rattle.module_expand.proofs.SizeLemmas.{size-paren, size-not, size-minus, size-if, size-append, size-map_more, size-all}
use Rattle.module_expand.proofs.sizes.+measure.Goals as goal

pub measure-returns-in-Paren : goal.measure-returns-in-Paren
measure-returns-in-Paren t c = λ by h. rw c.in-Paren.is (rw (replaced-paren by c.in-Paren.part)
    (size-paren c.measure.result c.in_parens.result _ c.in_parens.ensures.nodes c.in_parens.ensures.depth
    (subst (λ x. IsSize c.measure.result (replaced by x ∷ [])) c.get-in-Paren.ensures (c.measure.ensures by h))))

pub measure-returns-in-Not : goal.measure-returns-in-Not
measure-returns-in-Not t c = λ by h. rw c.in-Not.is (rw (replaced-not by c.in-Not.part)
    (size-not c.measure-in-Not.result c.in_node.result _ c.in_node.ensures.nodes c.in_node.ensures.depth
    (subst (λ x. IsSize c.measure-in-Not.result (replaced by x ∷ [])) c.get-in-Not.ensures
    (c.measure-in-Not.ensures by h))))

pub measure-returns-in-Minus : goal.measure-returns-in-Minus
measure-returns-in-Minus t c = λ by h. rw c.in-Minus.is (rw (replaced-minus by c.in-Minus.part)
    (size-minus c.measure-in-Minus.result c.in_node-in-Minus.result _ c.in_node-in-Minus.ensures.nodes
    c.in_node-in-Minus.ensures.depth
    (subst (λ x. IsSize c.measure-in-Minus.result (replaced by x ∷ [])) c.get-in-Minus.ensures
    (c.measure-in-Minus.ensures by h))))

pub measure-returns-in-If : goal.measure-returns-in-If
measure-returns-in-If t c = λ by h.
    let one = subst (λ x. IsSize c.measure-in-If.result (replaced by x ∷ [])) c.get-in-If.ensures
    (c.measure-in-If.ensures by h) in
    let two = subst (λ x. IsSize c.measure-in-If-2.result (replaced by x ∷ [])) c.get-in-If-2.ensures
    (c.measure-in-If-2.ensures by h) in
    let three = subst (λ x. IsSize c.measure-in-If-3.result (replaced by x ∷ [])) c.get-in-If-3.ensures
    (c.measure-in-If-3.ensures by h) in
    let both = size-append c.measure-in-If.result c.measure-in-If-2.result c.plus.result
    (replaced by c.in-If.condition ∷ []) (replaced by c.in-If.first ∷ [])
    c.plus.ensures.nodes c.plus.ensures.depth one two in
    let all = size-append c.plus.result c.measure-in-If-3.result c.plus-in-If.result (replaced by c.in-If.condition
    ∷ (replaced by c.in-If.first ∷ [])) (replaced by c.in-If.second ∷ [])
    c.plus-in-If.ensures.nodes c.plus-in-If.ensures.depth both three in
    rw c.in-If.is (rw (replaced-if by _ _ _) (size-if c.plus-in-If.result c.in_node-in-If.result _ _ _
    c.in_node-in-If.ensures.nodes c.in_node-in-If.ensures.depth all))

pub measure_all-loop-expr-preserved : goal.measure_all-loop-expr-preserved
measure_all-loop-expr-preserved t c = λ by h. size-map_more c.loop-expr.total c.measure.result c.plus-total.result
    (replaced by) c.args.exprs.now
    c.loop-expr.expr-index c.expr-item.result c.loop-expr-test.true c.expr-item.is c.plus-total.ensures.nodes
    c.plus-total.ensures.depth
    (c.loop-expr.invariant by h) (c.measure.ensures by h)

pub measure_all-returns : goal.measure_all-returns
measure_all-returns t c = λ by h. size-all c.loop-expr.total (replaced by) c.args.exprs.now c.loop-expr.expr-index
    c.loop-expr-test.false (c.loop-expr.invariant by h)
