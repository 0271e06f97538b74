-- Each setting is what its option says.
use Rattle.std.proofs.Common.{◌≡◌, ◌∙◌, sym, ap, subst, Some, rules}
use Rattle.smc_settings.specs.Values.{whole_or}
use Rattle.smc_settings.specs.Constants.{ArePairsOr}
use Rattle.smc_settings.specs.Settings.{trace_settings}
use Rattle.smc_settings.proofs.trace.settings.Goals as goal

pub returns-clause-read : goal.returns-clause-read
returns-clause-read c =
    let model : c.in_ok-map_err.field-0 ≡ c.in-Some.model.now = search rules in
    trace_settings _ _ _ _ _
    (sym c.in-Some.ensures ∙ ap Some (sym model))
    (subst (λ o. ArePairsOr o c.in_ok-pairs_or_none.field-0) c.get_str-5.ensures c.in_ok-pairs_or_none.ensures.read)
    (ap (whole_or 1 0 18446744073709551615) (sym c.get_str-2.ensures) ∙ sym c.in-Some-whole_or.ensures.value)
    (ap (whole_or 0 0 18446744073709551615) (sym c.get_str-3.ensures) ∙ sym c.in-Some-whole_or-2.ensures.value)
    (ap (whole_or 10 0 10000) (sym c.get_str-4.ensures) ∙ sym c.in-Some-whole_or-3.ensures.value)
