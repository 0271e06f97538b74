-- The choice is one of this group, or stands among those that follow it.
use Rattle.std.proofs.Common.{sym, ◌∙◌}
use Rattle.std.proofs.lemmas.Result.{IfOk-weaker}
use Rattle.trace_meaning.proofs.GroupLemmas.{here, fits_here, further}
use Rattle.trace_meaning.proofs.groups.choice.Goals as goal

pub loop-group-preserved : goal.loop-group-preserved
loop-group-preserved c =
    further c.args.groups.now c.loop-group.group-index c.loop-group.left c.size-many.result c.group-item.result _ c.loop-group-test.true c.group-item.is c.loop-group.invariant
    c.size-many.ensures c.if-left-many.false

pub choice_in-requires : goal.choice_in-requires
choice_in-requires c =
    let fits = fits_here c.args.groups.now c.loop-group.group-index c.loop-group.left c.size-many.result c.group-item.result _ c.loop-group-test.true c.group-item.is c.loop-group.invariant
    c.size-many.ensures c.if-left-many.true in
    record { there = fits.0; few = fits.1 }

pub returns-then-left-many : goal.returns-then-left-many
returns-then-left-many c =
    let same = here c.args.groups.now c.loop-group.group-index c.loop-group.left c.size-many.result c.group-item.result _ c.loop-group-test.true c.group-item.is c.loop-group.invariant
    c.size-many.ensures c.if-left-many.true in
    IfOk-weaker c.choice_in.result _ _ (λ choice found. sym same ∙ found) c.choice_in.ensures
