use Rattle.std.proofs.Common.{bytes_eq, refl, sym, ap, ◌∙◌, ◌≡◌}
use Rattle.std.specs.Prelude.{Some}
use mathlib.Core.Logic.{inr}
use Rattle.std.specs.Option.{option_copied}
use Rattle.indexmap.specs.IndexMap.{get}
use Rattle.module_expand.specs.Refusals.{renamed_to_formula}
use Rattle.module_expand.proofs.RefusalLemmas.{told_none, told_here, told_all}
use Rattle.module_expand.proofs.MappedLemmas.{of_mapped}
use Rattle.module_expand.proofs.modules.refuse_renamed_to_formula.Goals as goal

pub loop-item-preserved : goal.loop-item-preserved
loop-item-preserved c = told_none (renamed_to_formula (get bytes_eq c.args.formulas.now))
    c.args.modules.now c.loop-item.item-index c.item-item.result c.loop-item-test.true c.item-item.is
    c.loop-item.invariant (sym c.find_renamed_to_formula.ensures ∙ ap option_copied c.in_default.is)

pub returns-in-Some : goal.returns-in-Some
returns-in-Some c =
    let copied : c.in_ok-name.name ≡ c.in-Some.name.now =
    of_mapped c.copy.result c.map_err.result c.in_ok-name.name (λ copy. copy ≡ c.in-Some.name.now)
    _ c.map_err.ensures.cases c.in_ok-name.was c.copy.ensures in
    inr (
      c.in_ok-name.name,
      told_here (renamed_to_formula (get bytes_eq c.args.formulas.now))
          c.args.modules.now c.loop-item.item-index c.item-item.result c.in_ok-name.name
          c.loop-item-test.true c.item-item.is c.loop-item.invariant
          (sym c.find_renamed_to_formula.ensures ∙ (ap option_copied c.in-Some.is ∙ ap Some (sym copied))),
      refl,
    )

pub returns : goal.returns
returns c = told_all (renamed_to_formula (get bytes_eq c.args.formulas.now))
    c.args.modules.now c.loop-item.item-index c.loop-item-test.false c.loop-item.invariant
