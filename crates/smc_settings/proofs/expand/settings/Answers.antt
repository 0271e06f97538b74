-- The setting is what its option says.
use Rattle.std.proofs.Common.{◌≡◌, ◌∙◌, sym, ap, Some, rules}
use Rattle.smc_settings.specs.Settings.{expand_settings}
use Rattle.smc_settings.proofs.expand.settings.Goals as goal

pub returns-clause-read : goal.returns-clause-read
returns-clause-read c =
    let model : c.in_ok-map_err.field-0 ≡ c.in-Some.model.now = search rules in
    expand_settings _ (sym c.in-Some.ensures ∙ ap Some (sym model))
