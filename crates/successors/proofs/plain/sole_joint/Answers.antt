-- A list without an enabled command leaves no choice; with one alone it is one list further.
use Rattle.std.proofs.Common.{◌≡◌, ◌+◌, ◌-◌, ◌<◌, length, ap, ◌∙◌, subst, sym, arith}
use Rattle.std.specs.Prelude.{filter}
use Rattle.successors.specs.Plain.{holds_at}
use Rattle.successors.proofs.PlainLemmas.{Sole, sole_next, none_at}
use Rattle.successors.proofs.plain.sole_joint.Goals as goal

pub loop-place-preserved : goal.loop-place-preserved
loop-place-preserved c =
    let p = holds_at c.args.guards.now c.args.state.now in
    let lt : c.loop-place.place - 1 < length c.args.lists.now = omega (arith, c.loop-place-test.true, c.loop-place.invariant.within) in
    let next : c.loop-place.place ≡ (c.loop-place.place - 1) + 1 = omega (arith, c.loop-place-test.true) in
    sole_next p c.args.lists.now (c.loop-place.place - 1) c.in-One.command c.loop-place.chosen c.index-lists-place.result lt c.index-lists-place.is
    (subst (λ place. Sole p c.args.lists.now place c.loop-place.chosen) next c.loop-place.invariant)
    (ap (filter p) (sym c.as_slice.ensures) ∙ c.in-One.ensures)

pub returns-in-Nothing-clause-told : goal.returns-in-Nothing-clause-told
returns-in-Nothing-clause-told c =
    let p = holds_at c.args.guards.now c.args.state.now in
    none_at p c.args.lists.now (c.loop-place.place - 1) c.index-lists-place.result (omega (arith, c.loop-place-test.true, c.loop-place.invariant.within)) c.index-lists-place.is
    (ap (filter p) (sym c.as_slice.ensures) ∙ c.in-Nothing.ensures)
