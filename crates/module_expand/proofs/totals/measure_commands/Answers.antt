use Rattle.prism_syntax.specs.Replaced.{replaced}
use Rattle.module_expand.specs.Listed.{command_exprs}
use Rattle.module_expand.proofs.SizeLemmas.{size-more, size-all_flat}
use Rattle.module_expand.proofs.totals.measure_commands.Goals as goal

pub loop-command-preserved : goal.loop-command-preserved
loop-command-preserved c = λ by h. size-more c.loop-command.total c.measure_command.result c.plus-total.result
    (replaced by) command_exprs c.args.commands.now
    c.loop-command.command-index c.command-item.result c.loop-command-test.true c.command-item.is
    c.plus-total.ensures.nodes c.plus-total.ensures.depth
    (c.loop-command.invariant by h) (c.measure_command.ensures by h)

pub returns : goal.returns
returns c = λ by h. size-all_flat c.loop-command.total (replaced by) command_exprs c.args.commands.now
    c.loop-command.command-index c.loop-command-test.false (c.loop-command.invariant by h)
