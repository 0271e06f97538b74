use Rattle.smc_top.proofs.OneReport.{reports_same}
use Rattle.smc_top.proofs.laws.one_report.Goals as goal

pub returns : goal.returns
returns c = λ words files watched a b. reports_same c.one_settings.ensures c.one_flat_law.ensures c.one_model_law.ensures c.one_property_law.ensures c.one_end.ensures.run words files watched a b
