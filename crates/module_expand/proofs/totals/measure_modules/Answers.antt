use Rattle.std.proofs.Common.{map, sym, subst}
use Rattle.std.specs.List.{flat_map}
use Rattle.std.proofs.lemmas.List.{take_all}
use Rattle.module_expand.specs.Flat.{flat_module}
use Rattle.module_expand.specs.Listed.{module_exprs}
use Rattle.module_expand.specs.Sizes.{IsSize, AreSizesOfEach}
use Rattle.module_expand.proofs.OrderLemmas.{there_below, place_at}
use Rattle.module_expand.proofs.TotalLemmas.{size-module_more}
use Rattle.module_expand.proofs.totals.measure_modules.Goals as goal

pub loop-place-preserved : goal.loop-place-preserved
loop-place-preserved c = λ by h.
    let modules = c.args.modules.now in
    let place = c.loop-place.place in
    let item = there_below modules place c.loop-place-test.true in
    size-module_more c.loop-place.total c.size_of_module.result c.plus-total.result (flat_module modules by)
    modules place item.0
    c.loop-place-test.true (place_at modules place item.0 item.1).1 c.plus-total.ensures.nodes
    c.plus-total.ensures.depth (c.loop-place.invariant by h)
    (c.size_of_module.ensures by item.0 (subst (AreSizesOfEach by modules) (sym c.as_slice.ensures.value)
    (c.in_ok-each.ensures by h)) item.1)

pub returns : goal.returns
returns c = λ by h. subst (λ ms. IsSize c.loop-place.total
    (flat_map module_exprs (map (flat_module c.args.modules.now by) ms)))
    (take_all c.loop-place.place c.args.modules.now c.loop-place-test.false) (c.loop-place.invariant by h)
