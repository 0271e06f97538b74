use Rattle.std.proofs.Common.{◌+◌, ◌^◌, ◌<◌, ◌/◌, ap, sym, subst, ◌∙◌, min, length, get_or}
use Rattle.chain_model.specs.Choices.{combinations}
use Rattle.trace_meaning.proofs.CombinationLemmas.{digit_there, chosen_further, all_chosen}
use Rattle.trace_meaning.proofs.combinations.nth_combination.Goals as goal

pub nonzero_div-item : goal.nonzero_div-item
nonzero_div-item c =
    (digit_there c.args.lists.now c.loop-place.place c.loop-place.left c.count-below.result c.index-lists-place.result c.loop-place.chosen _ c.loop-place-test.true c.index-lists-place.is c.loop-place.invariant
    (c.count-below.ensures ∙ ap (λ ls. min (length (combinations ls)) (2 ^ 48 + 1)) c.split_at.ensures.back)).0

pub nonzero_rem-left : goal.nonzero_rem-left
nonzero_rem-left c =
    (digit_there c.args.lists.now c.loop-place.place c.loop-place.left c.count-below.result c.index-lists-place.result c.loop-place.chosen _ c.loop-place-test.true c.index-lists-place.is c.loop-place.invariant
    (c.count-below.ensures ∙ ap (λ ls. min (length (combinations ls)) (2 ^ 48 + 1)) c.split_at.ensures.back)).0

pub bounds-as_slice-left : goal.bounds-as_slice-left
bounds-as_slice-left c =
    let there = digit_there c.args.lists.now c.loop-place.place c.loop-place.left c.count-below.result c.index-lists-place.result c.loop-place.chosen _ c.loop-place-test.true c.index-lists-place.is c.loop-place.invariant
    (c.count-below.ensures ∙ ap (λ ls. min (length (combinations ls)) (2 ^ 48 + 1)) c.split_at.ensures.back) in
    subst (λ ls. c.loop-place.left / c.count-below.result < length ls) (sym c.as_slice.ensures) there.1

pub loop-place-preserved : goal.loop-place-preserved
loop-place-preserved c =
    chosen_further c.args.lists.now c.loop-place.place c.loop-place.left c.count-below.result _ 0 c.index-lists-place.result c.loop-place.chosen c.push.new.self _ c.loop-place-test.true c.index-lists-place.is c.loop-place.invariant
    (c.count-below.ensures ∙ ap (λ ls. min (length (combinations ls)) (2 ^ 48 + 1)) c.split_at.ensures.back)
    (ap (λ ls. get_or ls (c.loop-place.left / c.count-below.result) 0) c.as_slice.ensures) c.in-Ok.ensures.ok

pub returns : goal.returns
returns c = all_chosen c.args.lists.now c.loop-place.place c.loop-place.left c.loop-place.chosen _ c.loop-place-test.false c.loop-place.invariant
