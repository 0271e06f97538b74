use Rattle.prism_syntax.specs.Replaced.{replaced}
use Rattle.module_expand.proofs.SizeLemmas.{size-map_more, size-all_mapped}
use Rattle.module_expand.proofs.totals.measure_bodies.Goals as goal

pub loop-named-preserved : goal.loop-named-preserved
loop-named-preserved c = λ by h. size-map_more c.loop-named.total c.measure.result c.plus-total.result
    (λ x. replaced by x.body) c.args.all.now
    c.loop-named.named-index c.named-item.result c.loop-named-test.true c.named-item.is c.plus-total.ensures.nodes
    c.plus-total.ensures.depth
    (c.loop-named.invariant by h) (c.measure.ensures by h)

pub returns : goal.returns
returns c = λ by h. size-all_mapped c.loop-named.total (replaced by) (λ x. x.body)
    c.args.all.now c.loop-named.named-index c.loop-named-test.false (c.loop-named.invariant by h)
