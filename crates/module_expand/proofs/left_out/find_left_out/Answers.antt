use Rattle.std.specs.Option.{option_map}
use Rattle.module_expand.proofs.LeftOutLemmas.{first_more, first_none, first_all}
use Rattle.module_expand.proofs.left_out.find_left_out.Goals as goal

pub loop-item-init : goal.loop-item-init
loop-item-init c = first_none c.args.modules.now

pub loop-item-preserved : goal.loop-item-preserved
loop-item-preserved c = first_more c.args.modules.now c.args.modules.now c.loop-item.item-index c.item-item.result
    (option_map (λ v. (v.module, v.variable, v.name.now)) c.loop-item.first)
    (option_map (λ v. (v.module, v.variable, v.name.now)) c.in_ok-left_out_by.field-0)
    (option_map (λ v. (v.module, v.variable, v.name.now)) c.earlier-first.result) c.loop-item-test.true c.item-item.is
    c.loop-item.invariant c.in_ok-left_out_by.ensures c.earlier-first.ensures

pub returns : goal.returns
returns c = first_all c.args.modules.now c.loop-item.item-index (option_map (λ v. (v.module, v.variable, v.name.now))
    c.loop-item.first) c.loop-item-test.false c.loop-item.invariant
