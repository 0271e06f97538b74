-- One command more.
use Rattle.std.proofs.Common.{◌∷◌, [], length, ap, arith, length-append}
use Rattle.successors.proofs.CommandLemmas.{command_more}
use Rattle.successors.proofs.commands.commands.Goals as goal

pub loop-number-preserved : goal.loop-number-preserved
loop-number-preserved c = record {
  long = omega (arith, ap length c.in_ok-push.ensures.ok, length-append c.loop-number.commands (c.in_ok-command_of.field-0 ∷ []), c.loop-number.invariant.long);
  each = command_more c.args.chain.now c.loop-number.commands c.push.new.self c.loop-number.number c.in_ok-command_of.field-0
      c.loop-number.invariant.long c.loop-number.invariant.each c.in_ok-command_of.ensures c.in_ok-push.ensures.ok;
}
