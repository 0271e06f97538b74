use Rattle.std.proofs.Common.{w64, SFits, to_z-of_z}
use Rattle.wald_test.proofs.SettingsLemmas.{ceil_sign}
use Rattle.wald_test.proofs.settings.delta_not_positive.Goals as goal

-- the ceiling is 0 or below exactly where the width is
pub returns-clause-value : goal.returns-clause-value
returns-clause-value c =
    let fits : SFits w64 c.ceil.result = record { sfits = c.ceil.type_inv } in
    simp to_z-of_z (ceil_sign c.ceil.result c.args.delta.num c.args.delta.den c.ceil.ensures.at_least c.ceil.ensures.before)
