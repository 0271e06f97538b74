-- One command further.
use Rattle.guard_code.specs.Guards.{told_command, is_part_of}
use Rattle.guard_code.proofs.GuardLemmas.{any_next, any_holds}
use Rattle.guard_code.proofs.guards.some_part.Goals as goal

pub returns-then-is_enabled_part : goal.returns-then-is_enabled_part
returns-then-is_enabled_part c =
    any_holds (is_part_of c.args.action c.args.owner) (told_command c.args.state.now) c.args.commands.now c.loop-command.command-index c.command-item.result c.is_enabled_part.result _
    c.loop-command-test.true c.command-item.is c.is_enabled_part.ensures c.if-is_enabled_part.true c.loop-command.invariant

pub loop-command-preserved : goal.loop-command-preserved
loop-command-preserved c =
    any_next (is_part_of c.args.action c.args.owner) (told_command c.args.state.now) c.args.commands.now c.loop-command.command-index c.command-item.result c.is_enabled_part.result _
    c.loop-command-test.true c.command-item.is c.is_enabled_part.ensures c.if-is_enabled_part.false c.loop-command.invariant
