-- One command further.
use Rattle.guard_code.specs.Guards.{told_command, is_single}
use Rattle.guard_code.proofs.GuardLemmas.{any_next, any_holds}
use Rattle.guard_code.proofs.guards.some_single.Goals as goal

pub returns-then-is_enabled_single : goal.returns-then-is_enabled_single
returns-then-is_enabled_single c =
    any_holds is_single (told_command c.args.state.now) c.args.commands.now c.loop-command.command-index c.command-item.result c.is_enabled_single.result _
    c.loop-command-test.true c.command-item.is c.is_enabled_single.ensures c.if-is_enabled_single.true c.loop-command.invariant

pub loop-command-preserved : goal.loop-command-preserved
loop-command-preserved c =
    any_next is_single (told_command c.args.state.now) c.args.commands.now c.loop-command.command-index c.command-item.result c.is_enabled_single.result _
    c.loop-command-test.true c.command-item.is c.is_enabled_single.ensures c.if-is_enabled_single.false c.loop-command.invariant
