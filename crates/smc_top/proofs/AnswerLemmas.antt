-- What a command answers: the first refusal, or what it reports.
use Rattle.std.proofs.Common.{◌≡◌, ◌≢◌, ◌⊎◌, ◌∙◌, ◌≤◌, ◌++◌, inl, inr, ℕ, List, length, Result, Ok, Err, IfOk, sym, ap, subst, arith}
use Rattle.chain_model.specs.declared.constants.Given.{Given}
use Rattle.stop_rules.specs.Observers.{Observation}
use Rattle.smc_io.specs.Files.{Named}
use Rattle.smc_settings.specs.declared.commands.Settings.{Settings}
use Rattle.smc_settings.specs.declared.commands.Settings.TheVariants as command
use Rattle.smc_settings.specs.Settings.{IsSettings}
use Rattle.smc_report.specs.declared.reason.Reason.{Reason}
use Rattle.smc_report.specs.declared.reason.Reason.TheVariants as reason
use Rattle.smc_report.specs.Refusals.{status_of}
use Rattle.front_end.specs.declared.models.Model.{Model}
use Rattle.front_end.specs.declared.stop.Stop.{Stop}
use Rattle.front_end.specs.declared.stop.Stop.TheVariants.{Refused, OutOfMemory}
use Rattle.front_end.specs.Stops.{StopTells}
use Rattle.front_end.specs.Models.{HasFlat, IsModelOf}
use Rattle.prism_syntax.specs.declared.models.FlatText.{FlatText}
use Rattle.prism_print.specs.Printed.{printed}
use Rattle.model_gen.specs.Ring.{ring}
use Rattle.smc_top.specs.declared.asking.Asked.{Asked}
use Rattle.smc_top.specs.declared.report.Report.{Report}
use Rattle.smc_top.specs.declared.status.Status.{Status}
use Rattle.smc_top.specs.declared.status.Status.TheVariants.{Accepted}
use Rattle.smc_top.specs.RingCheck.{ring_check, ring_lines}
use Rattle.smc_top.specs.RingAnswer.{AnswersRing}
use Rattle.smc_top.specs.RingAnswer as rings
use Rattle.smc_top.specs.Codes.{code_of}
use Rattle.smc_top.specs.Asked.{file_of, IsCheck, Asks, Refuses}
use Rattle.smc_top.specs.Outside.{IsCutShort, IsDone, IsRefusedOver}
use Rattle.smc_top.specs.Report.{IsRefusal, IsRun, IsTraced, Reports, IsAnswer, IsReport, bytes_of, refused, reported, usage, answered}
use Rattle.smc_top.specs.Stopped.{IsReportOfStop}
use Rattle.smc_top.proofs.StatusLemmas.{refused_status, not_cut_short, run_is_done, trace_is_done, done_not_cut_short}

-- what follows for each report follows for the report that is there
pub of_each : {E : Type 0} (P Q : Report → Type 0) (made : Result Report E) → ((report : Report) → P report → Q report) → IfOk made P → IfOk made Q
of_each P Q (Ok report) f h = f report h
of_each P Q (Err lack) f h = tt

-- and what follows from two things for each report
pub of_both : {E : Type 0} (P Q R : Report → Type 0) (made : Result Report E) → ((report : Report) → P report → Q report → R report) → IfOk made P → IfOk made Q → IfOk made R
of_both P Q R (Ok report) f p q = f report p q
of_both P Q R (Err lack) f p q = tt

-- what is answered for settings is answered for the same ones
pub over_settings : {E : Type 0} (watched : List Observation) (settings other : Settings) (text : List ℕ) (made : Result Report E) → settings ≡ other → IfOk made (IsAnswer watched other text)
    → IfOk made (IsAnswer watched settings text)
over_settings watched settings other text made same answers = subst (λ (s : Settings). IfOk made (IsAnswer watched s text)) (sym same) answers

-- a stop is answered with the report of its refusal
pub stop_answers : (watched : List Observation) (settings : Settings) (text : List ℕ) (stop : Stop) → StopTells (Refuses settings text) stop
    → (report : Report) → IsReportOfStop stop report → IsAnswer watched settings text report
stop_answers watched settings text (Refused refusal) tells report is = refused refusal tells is
stop_answers watched settings text (OutOfMemory error) tells report is = absurd is

-- `check` is answered with the report of the run that it asks for
pub run_answers : (watched : List Observation) (settings : Settings) (text : List ℕ) (asked : Asked) → IsCheck settings → Asks settings text asked
    → (report : Report) → IsRun settings watched asked report → IsAnswer watched settings text report
run_answers watched (command.Check model property given seed test limit workers) text asked check asks report run = reported (record { asked = asked; asks = asks; run = run })
run_answers watched (command.Trace model given seed index steps) text asked check asks report run = absurd check
run_answers watched (command.Expand model) text asked check asks report run = absurd check
run_answers watched (command.Make stations seed workers) text asked check asks report run = absurd check
run_answers watched command.Help text asked check asks report run = absurd check

-- `trace` is answered with the report of the trace that it asks for
pub trace_answers : (watched : List Observation) (settings : Settings) (text name : List ℕ) (given : List Given) (seed index steps : ℕ) (read : Model) → settings ≡ command.Trace name given seed index steps → IsModelOf text given read
    → (report : Report) → IsTraced read.chain seed index steps report → IsAnswer watched settings text report
trace_answers watched settings text name given seed index steps read same model report traced =
    subst (λ (s : Settings). IsAnswer watched s text report) (sym same) (reported (read, model, traced))

-- `make` is answered with what is answered on its ring
pub ring_answers : (watched : List Observation) (stations seed workers : ℕ) (settings : Settings) (text any : List ℕ) → settings ≡ ring_check stations seed workers → text ≡ ring stations
    → (report : Report) → AnswersRing watched stations settings text report → IsAnswer watched (command.Make stations seed workers) any report
ring_answers watched stations seed workers settings text any same is report answers = by_case (subst (λ (s : Settings). AnswersRing watched stations s (ring stations) report) same
    (subst (λ (t : List ℕ). AnswersRing watched stations settings t report) is answers))
  where
    by_case : AnswersRing watched stations (ring_check stations seed workers) (ring stations) report → IsAnswer watched (command.Make stations seed workers) any report
    by_case (rings.refused why refuses line) = refused why refuses line
    by_case (rings.checked made) = reported made

-- a stop on a ring's text is answered with the report of its refusal
pub ring_stop_answers : (watched : List Observation) (stations : ℕ) (settings : Settings) (text : List ℕ) (stop : Stop) → StopTells (Refuses settings text) stop
    → (report : Report) → IsReportOfStop stop report → AnswersRing watched stations settings text report
ring_stop_answers watched stations settings text (Refused refusal) tells report is = rings.refused refusal tells is
ring_stop_answers watched stations settings text (OutOfMemory error) tells report is = absurd is

-- what is asked of a ring's text is answered with two lines and the report of its run
pub ring_run_answers : (watched : List Observation) (stations : ℕ) (settings : Settings) (text : List ℕ) (asked : Asked) → Asks settings text asked → (inner : Report) → IsRun settings watched asked inner
    → (report : Report) → report.status ≡ inner.status → report.bytes ≡ ring_lines stations (length text) ++ inner.bytes → AnswersRing watched stations settings text report
ring_run_answers watched stations settings text asked asks inner run report status bytes =
    rings.checked (record { checked = inner; is_checked = record { asked = asked; asks = asks; run = run }; status = status; bytes = bytes })

-- `expand` is answered with the printed form of the flat text
pub flat_answers : (watched : List Observation) (model text : List ℕ) (flat : FlatText) → HasFlat text flat → (report : Report) → report ≡ record { status = Accepted; bytes = printed flat }
    → IsAnswer watched (command.Expand model) text report
flat_answers watched model text flat has report is = reported (flat, has, is)

-- what a command reports is done
reported_is_done : (watched : List Observation) (settings : Settings) (text : List ℕ) (report : Report) → Reports watched settings text report → IsDone report.status
reported_is_done watched (command.Check model property given seed test limit workers) text report is = subst IsDone (sym is.run.status) (run_is_done is.run.end.cause)
reported_is_done watched (command.Trace model given seed index steps) text report (read, is, traced) = subst IsDone (sym traced.status) (trace_is_done _)
reported_is_done watched (command.Expand model) text report (flat, has, same) = subst IsDone (sym (ap (λ (r : Report). r.status) same)) tt
reported_is_done watched (command.Make stations seed workers) text report is =
    subst IsDone (sym (is.status ∙ is.is_checked.run.status)) (run_is_done is.is_checked.run.end.cause)
reported_is_done watched command.Help text report same = subst IsDone (sym (ap (λ (r : Report). r.status) same)) tt

-- a report of a refusal with such a status isn't that of a call that was cut short
refusal_not_cut_short : (why : Reason) (report : Report) → IsRefusal why report → status_of why ≢ 4 → status_of why ≤ 8 → ¬ IsCutShort report.status
refusal_not_cut_short why report is other low = not_cut_short report.status (λ e. other (sym is.status ∙ e)) (let same = is.status in omega (arith, same, low))

-- no report is that of a call that was cut short
pub report_is_proper : (words : List (List ℕ)) (files : Named) (watched : List Observation) (report : Report) → IsReport words files watched report → ¬ IsCutShort report.status
report_is_proper words files watched report (usage none is) = refusal_not_cut_short reason.Usage report is (omega arith) (omega arith)
report_is_proper words files watched report (answered settings read (refused why refuses is)) =
    let status = refused_status settings _ why refuses in
    let low = status.0 in
    let high = status.1 in
    refusal_not_cut_short why report is (omega (arith, low)) (omega (arith, high))
report_is_proper words files watched report (answered settings read (reported reports)) =
    done_not_cut_short report.status (reported_is_done watched settings _ report reports)

-- what nothing refuses is done
pub accepted_is_done : (words : List (List ℕ)) (files : Named) (watched : List Observation) (report : Report) → IsReport words files watched report → ¬ IsRefusedOver words files → IsDone report.status
accepted_is_done words files watched report (usage none is) accepted = absurd (accepted (inl none))
accepted_is_done words files watched report (answered settings read (refused why refuses is)) accepted = absurd (accepted (inr (settings, why, read, refuses)))
accepted_is_done words files watched report (answered settings read (reported reports)) accepted = reported_is_done watched settings _ report reports
