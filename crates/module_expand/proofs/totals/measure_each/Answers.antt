use Rattle.std.proofs.Common.{length, sym, ap, subst, arith}
use Rattle.std.proofs.lemmas.Grind.{common_steps}
use Rattle.std.proofs.lemmas.List.{take_all}
use Rattle.module_expand.specs.Sizes.{AreSizesOfEach}
use Rattle.module_expand.proofs.FirstLemmas.{not_none}
use Rattle.module_expand.proofs.TotalLemmas.{each_more}
use Rattle.module_expand.proofs.totals.measure_each.Goals as goal

pub loop-item-init : goal.loop-item-init
loop-item-init c = (ap length c.new-each.ensures.items, λ by h place m at. absurd (not_none m (sym at)))

pub loop-item-preserved : goal.loop-item-preserved
loop-item-preserved c = (
  grind (arith, common_steps),
  λ by h. each_more by c.args.modules.now c.loop-item.item-index
      c.item-item.result c.loop-item.each.items c.push.new.self.items
      c.measure_module.result c.loop-item-test.true c.item-item.is c.loop-item.invariant.0 c.in_ok-push.ensures.items
      (c.loop-item.invariant.1 by h) (c.measure_module.ensures by h),
)

pub returns : goal.returns
returns c = λ by h. subst (λ ms. AreSizesOfEach by ms c.loop-item.each.items)
    (take_all c.loop-item.item-index c.args.modules.now c.loop-item-test.false) (c.loop-item.invariant.1 by h)
