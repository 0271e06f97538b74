-- One guard further.
use Rattle.std.proofs.Common.{◌<◌, length, take, sym, subst, arith}
use Rattle.successors.specs.Enabled.{numbers_with, IsFound}
use Rattle.successors.specs.Commands.{enabled_by}
use Rattle.successors.proofs.CommandLemmas.{guards_next, numbers_next}
use Rattle.successors.proofs.guards.write_guards.Goals as goal

pub loop-number-preserved : goal.loop-number-preserved
loop-number-preserved c =
    let room : c.loop-number.number < length c.loop-number.bytes = omega (arith, c.loop-number-test.true, c.requires.long, c.loop-number.auto.bytes) in (
      guards_next c.args.state.now c.args.guards.now c.loop-number.number c.index-guards-number.result c.in-Ok.holds c.loop-number.bytes c.byte_of.result
          (enabled_by 0 c.args.state.now c.args.guards.now) c.loop-number-test.true room
          c.index-guards-number.is (sym c.in-Ok.ensures) c.byte_of.ensures c.loop-number.invariant.0,
      subst (IsFound c.found_with-found.result) (sym (numbers_next c.loop-number.bytes c.loop-number.number c.byte_of.result c.in-Ok.holds room c.byte_of.ensures))
          (c.found_with-found.ensures (numbers_with 0 0 (take c.loop-number.number c.loop-number.bytes)) c.loop-number.invariant.1),
    )
