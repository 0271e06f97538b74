-- A list without an enabled command leaves no choice; with one it is one list further.
use Rattle.std.proofs.Common.{◌≡◌, ℕ, ◌+◌, ◌-◌, ◌<◌, List, length, ap, ◌∙◌, subst, sym, arith, None}
use Rattle.std.specs.Prelude.{filter, slice_get}
use Rattle.successors.specs.Enabled.{is_enabled}
use Rattle.successors.proofs.FirstLemmas.{Found, found_next, none_joint}
use Rattle.successors.proofs.first.first_joint.Goals as goal

pub returns-in-None-clause-count : goal.returns-in-None-clause-count
returns-in-None-clause-count c =
    let p = is_enabled c.args.lane c.args.enabled.now in
    let none : None ≡ slice_get (filter p c.index-lists-place.result) 0 = sym c.in-None.is ∙ c.first_enabled-count.ensures.first ∙ ap (λ (ls : List ℕ). slice_get (filter p ls) 0) c.as_slice.ensures in
    omega (arith, none_joint p c.args.lists.now (c.loop-place.place - 1) c.index-lists-place.result (omega (arith, c.loop-place-test.true, c.loop-place.invariant.within)) c.index-lists-place.is none)

pub loop-place-preserved : goal.loop-place-preserved
loop-place-preserved c =
    let p = is_enabled c.args.lane c.args.enabled.now in
    let lt : c.loop-place.place - 1 < length c.args.lists.now = omega (arith, c.loop-place-test.true, c.loop-place.invariant.within) in
    let next : c.loop-place.place ≡ (c.loop-place.place - 1) + 1 = omega (arith, c.loop-place-test.true) in
    found_next p c.args.lists.now (c.loop-place.place - 1) c.loop-place.product c.first_enabled-count.result.0 c.capped_product-product.result c.in-Some.command c.loop-place.chosen
    c.index-lists-place.result lt c.index-lists-place.is
    (subst (λ place. Found p c.args.lists.now place c.loop-place.product c.loop-place.chosen) next c.loop-place.invariant)
    (c.first_enabled-count.ensures.count ∙ ap (λ (ls : List ℕ). length (filter p ls)) c.as_slice.ensures)
    (sym c.in-Some.is ∙ c.first_enabled-count.ensures.first ∙ ap (λ (ls : List ℕ). slice_get (filter p ls) 0) c.as_slice.ensures)
    c.capped_product-product.ensures
