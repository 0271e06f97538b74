-- What is answered on the text of a ring.
use Rattle.std.specs.Prelude.{ℕ, List}
use Rattle.stop_rules.specs.Observers.{Observation}
use Rattle.smc_settings.specs.declared.commands.Settings.{Settings}
use Rattle.smc_report.specs.declared.reason.Reason.{Reason}
use Rattle.smc_top.specs.declared.report.Report.{Report}
use Rattle.smc_top.specs.Asked.{Refuses}
use Rattle.smc_top.specs.Report.{IsRefusal, IsRingReport}

-- the line of a refusal, or two lines and the report of a check with these settings
pub data AnswersRing (watched : List Observation) (stations : ℕ) (settings : Settings) (text : List ℕ) (report : Report) : Type 0 where
  refused : (why : Reason) → Refuses settings text why → IsRefusal why report → AnswersRing watched stations settings text report
  checked : IsRingReport watched stations settings text report → AnswersRing watched stations settings text report
