-- One module further.
use Rattle.std.proofs.Common.{map}
use Rattle.guard_code.specs.Guards.{told_command, some_enabled, is_part_of}
use Rattle.guard_code.proofs.GuardLemmas.{all_next, all_fails}
use Rattle.guard_code.proofs.guards.all_parts.Goals as goal

pub returns-then-not-there : goal.returns-then-not-there
returns-then-not-there c =
    all_fails (λ owner. some_enabled (is_part_of c.args.action owner) (map (told_command c.args.state.now) c.args.commands.now)) c.args.modules.now c.loop-owner.owner-index 0 c.some_part-there.result _
    c.loop-owner-test.true c.some_part-there.ensures c.if-not-there.true c.loop-owner.invariant

pub loop-owner-preserved : goal.loop-owner-preserved
loop-owner-preserved c =
    all_next (λ owner. some_enabled (is_part_of c.args.action owner) (map (told_command c.args.state.now) c.args.commands.now)) c.args.modules.now c.loop-owner.owner-index 0 c.some_part-there.result _
    c.loop-owner-test.true c.some_part-there.ensures c.if-not-there.false c.loop-owner.invariant
