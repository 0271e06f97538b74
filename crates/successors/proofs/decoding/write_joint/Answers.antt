-- One digit further, from the last.
use Rattle.std.proofs.Common.{◌≡◌, ◌-◌, ◌+◌, ◌/◌, ◌%◌, ◌<◌, ℕ, List, length, subst, sym, ap, ◌∙◌, arith}
use Rattle.std.specs.Prelude.{filter, slice_get}
use Rattle.successors.specs.Enabled.{is_enabled}
use Rattle.successors.proofs.DecodeLemmas.{Decoded, some_at, decoded_next, decoded_all}
use Rattle.successors.proofs.decoding.write_joint.Goals as goal

pub digit_of-command-requires-clause-some : goal.digit_of-command-requires-clause-some
digit_of-command-requires-clause-some c =
    let p = is_enabled c.args.lane c.args.enabled.now in
    subst (λ ls. 0 < length (filter p ls)) (sym c.as_slice.ensures)
    (some_at p c.args.lists.now (c.loop-place.place - 1) c.args.number c.index-lists-place.result (omega (arith, c.loop-place-test.true, c.loop-place.invariant.within)) c.index-lists-place.is c.requires.there)

pub loop-place-preserved : goal.loop-place-preserved
loop-place-preserved c =
    let p = is_enabled c.args.lane c.args.enabled.now in
    let lt : c.loop-place.place - 1 < length c.args.lists.now = omega (arith, c.loop-place-test.true, c.loop-place.invariant.within) in
    let next : c.loop-place.place ≡ (c.loop-place.place - 1) + 1 = omega (arith, c.loop-place-test.true) in
    decoded_next p c.args.lists.now c.args.number (c.loop-place.place - 1) c.loop-place.left c.digit_of-command.result.0 c.digit_of-command.result.1 c.loop-place.chosen c.index-lists-place.result lt
    c.index-lists-place.is
    (subst (λ place. Decoded p c.args.lists.now c.args.number place c.loop-place.left c.loop-place.chosen) next c.loop-place.invariant)
    (some_at p c.args.lists.now (c.loop-place.place - 1) c.args.number c.index-lists-place.result lt c.index-lists-place.is c.requires.there)
    (ap (λ (ls : List ℕ). slice_get (filter p ls) (c.loop-place.left % length (filter p ls))) (sym c.as_slice.ensures) ∙ c.digit_of-command.ensures.command)
    (c.digit_of-command.ensures.left ∙ ap (λ (ls : List ℕ). c.loop-place.left / length (filter p ls)) c.as_slice.ensures)

pub returns : goal.returns
returns c =
    let p = is_enabled c.args.lane c.args.enabled.now in
    let start : c.loop-place.place ≡ 0 = omega (arith, c.loop-place-test.false) in
    decoded_all p c.args.lists.now c.args.number c.loop-place.left c.loop-place.chosen
    (subst (λ place. Decoded p c.args.lists.now c.args.number place c.loop-place.left c.loop-place.chosen) start c.loop-place.invariant) c.requires.there
