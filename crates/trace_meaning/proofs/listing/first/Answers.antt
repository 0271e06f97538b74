-- One choice more is listed.
use Rattle.std.specs.Prelude.{flat_map}
use Rattle.trace_meaning.specs.Groups.{group_choices}
use Rattle.trace_meaning.proofs.ListingLemmas.{listed_next}
use Rattle.trace_meaning.proofs.listing.first.Goals as goal

pub loop-number-preserved : goal.loop-number-preserved
loop-number-preserved c =
    listed_next (flat_map group_choices c.args.groups.now) c.loop-number.number c.in-Ok.choice c.loop-number.list c.push.new.self c.in-Ok.ensures c.in-Ok-push.ensures.ok c.loop-number.invariant
