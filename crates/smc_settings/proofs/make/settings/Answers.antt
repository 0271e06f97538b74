-- Each setting is what its option says.
use Rattle.std.proofs.Common.{◌≡◌, ◌∙◌, ◌%◌, sym, ap, rules}
use Rattle.smc_settings.specs.Values.{whole_or}
use Rattle.smc_settings.specs.Settings.{make_settings}
use Rattle.smc_settings.proofs.make.settings.Goals as goal

pub returns-clause-read : goal.returns-clause-read
returns-clause-read c =
    let odd : c.in-Some.stations % 2 ≡ 1 = search rules in
    make_settings _ _ _
    (ap (whole_or 9 3 63) (sym c.get_str.ensures) ∙ sym c.in-Some.ensures.value)
    odd
    (ap (whole_or 1 0 18446744073709551615) (sym c.get_str-2.ensures) ∙ sym c.in-Some-whole_or.ensures.value)
    (ap (whole_or 1 1 64) (sym c.get_str-3.ensures) ∙ sym c.in-Some-whole_or-2.ensures.value)
