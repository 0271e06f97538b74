-- Each setting is what its option says.
use Rattle.std.proofs.Common.{◌≡◌, ◌∙◌, sym, ap, subst, Some, rules}
use Rattle.smc_settings.specs.Values.{whole_or}
use Rattle.smc_settings.specs.Constants.{ArePairsOr}
use Rattle.smc_settings.specs.Settings.{check_settings}
use Rattle.smc_settings.proofs.check.settings.Goals as goal

pub returns-clause-read : goal.returns-clause-read
returns-clause-read c =
    let model : c.in_ok-map_err.field-0 ≡ c.in-Some.model.now = search rules in
    let property : c.in_ok-map_err-2.field-0 ≡ c.in-Some-get_str.property.now = search rules in
    check_settings _ _ _ _ _ _ _
    (sym c.in-Some.ensures ∙ ap Some (sym model))
    (sym c.in-Some-get_str.ensures ∙ ap Some (sym property))
    (subst (λ o. ArePairsOr o c.in_ok-pairs_or_none.field-0) c.get_str-10.ensures c.in_ok-pairs_or_none.ensures.read)
    (ap (whole_or 1 0 18446744073709551615) (sym c.get_str-3.ensures) ∙ sym c.in-Some-whole_or.ensures.value)
    (rw (← c.get_str-4.ensures, ← c.get_str-5.ensures, ← c.get_str-6.ensures, ← c.get_str-7.ensures) c.in-Some-test.ensures.found)
    (ap (whole_or 1000000 1 268435456) (sym c.get_str-8.ensures) ∙ sym c.in-Some-whole_or-2.ensures.value)
    (ap (whole_or 1 1 64) (sym c.get_str-9.ensures) ∙ sym c.in-Some-whole_or-3.ensures.value)
