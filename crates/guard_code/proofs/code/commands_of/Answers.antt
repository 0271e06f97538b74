-- One command further.
use Rattle.std.proofs.Common.{refl}
use Rattle.guard_code.specs.declared.code.Command.{Command}
use Rattle.guard_code.proofs.CodeLemmas.{told_more}
use Rattle.guard_code.proofs.code.commands_of.Goals as goal

pub loop-act-preserved : goal.loop-act-preserved
loop-act-preserved c =
    let command : Command = record { «module» = c.act-item.result.module; action = c.act-item.result.action; guard = c.in_ok-guard.guard } in
    told_more c.loop-act.commands c.push.new.self c.args.acts.now c.loop-act.act-index c.act-item.result command c.loop-act-test.true c.act-item.is refl refl c.in_ok-guard.ensures
    c.in_ok-push.ensures.ok c.loop-act.invariant
