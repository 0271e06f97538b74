use Rattle.prism_syntax.specs.Replaced.{replaced}
use Rattle.module_expand.specs.Listed.{variable_exprs}
use Rattle.module_expand.proofs.SizeLemmas.{size-more, size-all_flat}
use Rattle.module_expand.proofs.totals.measure_variables.Goals as goal

pub loop-variable-preserved : goal.loop-variable-preserved
loop-variable-preserved c = λ by h. size-more c.loop-variable.total c.measure_variable.result c.plus-total.result
    (replaced by) variable_exprs c.args.variables.now
    c.loop-variable.variable-index c.variable-item.result c.loop-variable-test.true c.variable-item.is
    c.plus-total.ensures.nodes c.plus-total.ensures.depth
    (c.loop-variable.invariant by h) (c.measure_variable.ensures by h)

pub returns : goal.returns
returns c = λ by h. size-all_flat c.loop-variable.total (replaced by) variable_exprs c.args.variables.now
    c.loop-variable.variable-index c.loop-variable-test.false (c.loop-variable.invariant by h)
