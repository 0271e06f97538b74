use Rattle.prism_syntax.specs.Replaced.{replaced}
use Rattle.module_expand.specs.Listed.{branch_exprs}
use Rattle.module_expand.proofs.SizeLemmas.{size-more, size-all_flat}
use Rattle.module_expand.proofs.totals.measure_branches.Goals as goal

pub loop-branch-preserved : goal.loop-branch-preserved
loop-branch-preserved c = λ by h. size-more c.loop-branch.total c.measure_branch.result c.plus-total.result
    (replaced by) branch_exprs c.args.branches.now
    c.loop-branch.branch-index c.branch-item.result c.loop-branch-test.true c.branch-item.is
    c.plus-total.ensures.nodes c.plus-total.ensures.depth
    (c.loop-branch.invariant by h) (c.measure_branch.ensures by h)

pub returns : goal.returns
returns c = λ by h. size-all_flat c.loop-branch.total (replaced by) branch_exprs c.args.branches.now
    c.loop-branch.branch-index c.loop-branch-test.false (c.loop-branch.invariant by h)
