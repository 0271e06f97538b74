-- One choice more is written.
use Rattle.std.proofs.Common.{◌+◌, ◌*◌, ◌≤◌, refl, arith}
use Rattle.successors.specs.Enabled.{is_enabled}
use Rattle.successors.specs.Partition.{choice_lists}
use Rattle.successors.proofs.ChoiceLemmas.{part_within, parts_next}
use Rattle.successors.proofs.listing.write_parts.Goals as goal

pub loop-number-preserved : goal.loop-number-preserved
loop-number-preserved c =
    let within : c.loop-number.number * c.args.size + c.args.size ≤ c.args.count * c.args.size =
    part_within c.loop-number.number c.args.count c.args.size c.loop-number-test.true in
    parts_next (choice_lists (is_enabled 0 c.args.enabled.now) c.args.singles.now c.args.actions.now) c.loop-number.number c.args.size c.loop-number.chosen
    c.write_part.new.chosen c.loop-number.invariant (c.if-not-write_part.ensures.part refl) c.write_part.ensures.before
    (omega (arith, within, c.requires.fits, c.loop-number.auto.chosen)) (omega (arith, c.write_part.auto.chosen))
