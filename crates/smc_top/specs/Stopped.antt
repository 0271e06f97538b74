-- The report of a stop of one of the texts.
use Rattle.front_end.specs.declared.stop.Stop.{Stop}
use Rattle.front_end.specs.declared.stop.Stop.TheVariants.{Refused, OutOfMemory}
use Rattle.smc_top.specs.declared.report.Report.{Report}
use Rattle.smc_top.specs.Report.{IsRefusal}

-- the report of a stop is that of its refusal; want of memory has none
abbrev pub IsReportOfStop : Stop → Report → Type 0
IsReportOfStop (Refused refusal) report = IsRefusal refusal report
IsReportOfStop (OutOfMemory error) report = ⊥
