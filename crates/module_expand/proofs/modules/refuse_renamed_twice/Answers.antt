use Rattle.std.proofs.Common.{◌≡◌, refl, sym, ◌∙◌}
use mathlib.Core.Logic.{inr}
use Rattle.module_expand.specs.Refusals.{renamed_twice}
use Rattle.module_expand.proofs.RefusalLemmas.{told_none, told_here, told_all}
use Rattle.module_expand.proofs.MappedLemmas.{of_mapped}
use Rattle.module_expand.proofs.modules.refuse_renamed_twice.Goals as goal

pub loop-item-preserved : goal.loop-item-preserved
loop-item-preserved c =
    let found : c.in_ok-name.field-0 ≡ renamed_twice c.item-item.result =
    of_mapped c.find_renamed_twice.result c.map_err.result c.in_ok-name.field-0 (λ name. name
    ≡ renamed_twice c.item-item.result) _
    c.map_err.ensures.cases c.in_ok-name.was c.find_renamed_twice.ensures in
    told_none renamed_twice c.args.modules.now c.loop-item.item-index c.item-item.result c.loop-item-test.true
    c.item-item.is c.loop-item.invariant (sym found ∙ c.in_default.is)

pub returns-in-Some : goal.returns-in-Some
returns-in-Some c =
    let found : c.in_ok-name.field-0 ≡ renamed_twice c.item-item.result =
    of_mapped c.find_renamed_twice.result c.map_err.result c.in_ok-name.field-0 (λ name. name
    ≡ renamed_twice c.item-item.result) _
    c.map_err.ensures.cases c.in_ok-name.was c.find_renamed_twice.ensures in
    inr (
      c.in-Some.name,
      told_here renamed_twice c.args.modules.now c.loop-item.item-index c.item-item.result
          c.in-Some.name
          c.loop-item-test.true c.item-item.is c.loop-item.invariant (sym found ∙ c.in-Some.is),
      refl,
    )

pub returns : goal.returns
returns c = told_all renamed_twice c.args.modules.now c.loop-item.item-index c.loop-item-test.false
    c.loop-item.invariant
