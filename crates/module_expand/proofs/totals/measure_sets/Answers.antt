use Rattle.prism_syntax.specs.Replaced.{replaced}
use Rattle.module_expand.proofs.SizeLemmas.{size-map_more, size-all_mapped}
use Rattle.module_expand.proofs.totals.measure_sets.Goals as goal

pub loop-set-preserved : goal.loop-set-preserved
loop-set-preserved c = λ by h. size-map_more c.loop-set.total c.measure.result c.plus-total.result
    (λ x. replaced by x.1) c.args.sets.now
    c.loop-set.set-index c.set-item.result c.loop-set-test.true c.set-item.is c.plus-total.ensures.nodes
    c.plus-total.ensures.depth
    (c.loop-set.invariant by h) (c.measure.ensures by h)

pub returns : goal.returns
returns c = λ by h. size-all_mapped c.loop-set.total (replaced by) (λ x. x.1) c.args.sets.now c.loop-set.set-index
    c.loop-set-test.false (c.loop-set.invariant by h)
