-- The report of words over files: the status that the program ends with, and the bytes that it writes.
use Rattle.std.specs.Prelude.{◌≡◌, ℕ, ◌+◌, List, [], ◌++◌, length, Option, Some, None, Result, Ok, Err}
use Rattle.trace_streams.specs.Draws.{draw_at}
use Rattle.smc_io.specs.Files.{Named, bytes_at}
use Rattle.chain_model.specs.declared.chain.Chain.{Chain}
use Rattle.chain_model.specs.declared.constants.Given.{Given}
use Rattle.chain_model.specs.declared.outcome.TraceFault.{TraceFault}
use Rattle.chain_model.specs.declared.outcome.Outcome.TheVariants as outcome
use Rattle.chain_model.specs.Outcome.{IsOutcome}
use Rattle.chain_model.specs.Step.{Configuration}
use Rattle.stop_rules.specs.declared.end.Cause.{Cause}
use Rattle.stop_rules.specs.declared.end.Cause.TheVariants.{Accept, Reject, Close, Limit, Fault}
use Rattle.stop_rules.specs.declared.end.End.{End}
use Rattle.stop_rules.specs.Observers.{Observation}
use Rattle.stop_rules.specs.Run.{EndsRun}
use Rattle.sampling_run.specs.Drawn.{AreLines}
use Rattle.prism_syntax.specs.declared.models.FlatText.{FlatText}
use Rattle.prism_print.specs.Printed.{printed}
use Rattle.model_gen.specs.Ring.{ring}
use Rattle.smc_settings.specs.declared.commands.Settings.{Settings}
use Rattle.smc_settings.specs.declared.commands.Settings.TheVariants as command
use Rattle.smc_settings.specs.Settings.{IsSettings}
use Rattle.smc_report.specs.declared.reason.Reason.{Reason}
use Rattle.smc_report.specs.declared.reason.Reason.TheVariants as reason
use Rattle.smc_report.specs.Causes.{cause_text}
use Rattle.smc_report.specs.Help.{commands_line}
use Rattle.smc_report.specs.Refusals.{refusal_line, status_of}
use Rattle.smc_report.specs.Report.{check_report}
use Rattle.trace_report.specs.States.{configuration_after}
use Rattle.trace_report.specs.Report.{trace_text}
use Rattle.front_end.specs.declared.models.Model.{Model}
use Rattle.front_end.specs.Models.{HasFlat, IsModelOf}
use Rattle.smc_top.specs.declared.asking.Asked.{Asked}
use Rattle.smc_top.specs.declared.report.Report.{Report}
use Rattle.smc_top.specs.declared.status.Status.{Status}
use Rattle.smc_top.specs.declared.status.Status.TheVariants.{Accepted, Rejected, Undecided, TraceFault as TraceFaulted}
use Rattle.smc_top.specs.Codes.{code_of}
use Rattle.smc_top.specs.RingCheck.{ring_check, ring_lines}
use Rattle.smc_top.specs.Asked.{file_of, Asks, Refuses}

-- the report of a refusal: its line, and its status
pub record IsRefusal (why : Reason) (report : Report) : Type 0 where
  pub line : refusal_line why ≡ Some report.bytes
  pub status : code_of report.status ≡ status_of why

-- the status of a run by its cause
abbrev pub status_of_run : Cause → Status
status_of_run Accept = Accepted
status_of_run Reject = Rejected
status_of_run Close = Undecided
status_of_run Limit = Undecided
status_of_run Fault = TraceFaulted

-- the report of a run: the traces of the job are drawn one by one, in numeric order, up to the first at which the run ends
pub record IsRun (settings : Settings) (watched : List Observation) (asked : Asked) (report : Report) : Type 0 where
  pub end : End
  pub ends : EndsRun asked.job asked.goal end
  -- what the observers say of the admitted traces
  pub lines : List (List ℕ)
  pub observed : AreLines asked.job asked.goal watched end lines
  -- the step and the fault of the trace that ended the run, where one faulted
  pub step : ℕ
  pub fault : TraceFault
  pub faulted : end.cause ≡ Fault → IsOutcome asked.job (end.d + end.f) (outcome.Fault step fault)
  pub status : report.status ≡ status_of_run end.cause
  pub bytes : report.bytes ≡ check_report settings asked.claim end step (cause_text asked.job.chain fault) lines

-- the status of a trace by where it stands after its last step
abbrev pub status_of_trace : Result Configuration TraceFault → Status
status_of_trace (Ok last) = Accepted
status_of_trace (Err fault) = TraceFaulted

-- the report of so many steps of the trace of this index under this seed
pub record IsTraced (chain : Chain) (seed index steps : ℕ) (report : Report) : Type 0 where
  pub status : report.status ≡ status_of_trace (configuration_after chain (draw_at seed index) steps)
  pub bytes : report.bytes ≡ trace_text chain (draw_at seed index) steps

-- what `check` reports on a text: the report of the run that it asks for
pub record IsChecked (watched : List Observation) (settings : Settings) (text : List ℕ) (report : Report) : Type 0 where
  pub asked : Asked
  pub asks : Asks settings text asked
  pub run : IsRun settings watched asked report

-- what `make` reports on a ring: two lines, and then what `check` reports on its text
pub record IsRingReport (watched : List Observation) (stations : ℕ) (settings : Settings) (text : List ℕ) (report : Report) : Type 0 where
  pub checked : Report
  pub is_checked : IsChecked watched settings text checked
  pub status : report.status ≡ checked.status
  pub bytes : report.bytes ≡ ring_lines stations (length text) ++ checked.bytes

-- what a command reports on a model's text that it doesn't refuse
abbrev pub Reports : List Observation → Settings → List ℕ → Report → Type 0
Reports watched (command.Check model property given seed test limit workers) text report =
    IsChecked watched (command.Check model property given seed test limit workers) text report
Reports watched (command.Trace model given seed index steps) text report =
    (read : Model) × IsModelOf text given read × IsTraced read.chain seed index steps report
Reports watched (command.Expand model) text report =
    (flat : FlatText) × HasFlat text flat × (report ≡ record { status = Accepted; bytes = printed flat })
Reports watched (command.Make stations seed workers) text report =
    IsRingReport watched stations (ring_check stations seed workers) (ring stations) report
Reports watched command.Help text report = report ≡ record { status = Accepted; bytes = commands_line }

-- what settings are answered over a model's text: the first refusal, or else the command's report
pub data IsAnswer (watched : List Observation) (settings : Settings) (text : List ℕ) (report : Report) : Type 0 where
  refused : (why : Reason) → Refuses settings text why → IsRefusal why report → IsAnswer watched settings text report
  reported : Reports watched settings text report → IsAnswer watched settings text report

-- the bytes of a file, if one is named; an absent file counts as an empty one
abbrev pub bytes_of : Named → Option (List ℕ) → List ℕ
bytes_of files None = []
bytes_of files (Some name) = bytes_at files name

-- the report of words over files: the usage line where they give no settings, or else what the settings are answered
pub data IsReport (words : List (List ℕ)) (files : Named) (watched : List Observation) (report : Report) : Type 0 where
  usage : ((settings : Settings) → ¬ IsSettings words settings) → IsRefusal reason.Usage report
      → IsReport words files watched report
  answered : (settings : Settings) → IsSettings words settings
      → IsAnswer watched settings (bytes_of files (file_of settings)) report → IsReport words files watched report
