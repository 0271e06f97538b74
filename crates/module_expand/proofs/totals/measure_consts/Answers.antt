use Rattle.prism_syntax.specs.Replaced.{replaced}
use Rattle.module_expand.specs.Listed.{const_exprs}
use Rattle.module_expand.proofs.SizeLemmas.{size-more, size-all_flat}
use Rattle.module_expand.proofs.totals.measure_consts.Goals as goal

pub loop-constant-preserved : goal.loop-constant-preserved
loop-constant-preserved c = λ by h. size-more c.loop-constant.total c.measure_optional.result c.plus-total.result
    (replaced by) const_exprs c.args.consts.now
    c.loop-constant.constant-index c.constant-item.result c.loop-constant-test.true c.constant-item.is
    c.plus-total.ensures.nodes c.plus-total.ensures.depth
    (c.loop-constant.invariant by h) (c.measure_optional.ensures by h)

pub returns : goal.returns
returns c = λ by h. size-all_flat c.loop-constant.total (replaced by) const_exprs c.args.consts.now
    c.loop-constant.constant-index c.loop-constant-test.false (c.loop-constant.invariant by h)
