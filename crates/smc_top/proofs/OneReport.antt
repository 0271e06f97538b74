-- Words have one report over the same files.
use Rattle.std.proofs.Common.{◌≡◌, ℕ, List, [], ◌∷◌, ◌++◌, length, Option, Some, get_or, refl, ap, sym, ◌∙◌, subst}
use Rattle.stop_rules.specs.Observers.{Observation}
use Rattle.smc_io.specs.Files.{Named}
use Rattle.smc_settings.specs.declared.commands.Settings.{Settings}
use Rattle.smc_settings.specs.declared.commands.Settings.TheVariants as command
use Rattle.chain_model.specs.declared.constants.Given.{Given}
use Rattle.smc_settings.specs.declared.commands.TestWords.{TestWords}
use Rattle.smc_settings.specs.Settings.{IsSettings}
use Rattle.smc_report.specs.declared.reason.Reason.{Reason}
use Rattle.smc_report.specs.declared.reason.Reason.TheVariants as reason
use Rattle.smc_report.specs.Refusals.{status_of}
use Rattle.front_end.specs.declared.models.Model.{Model}
use Rattle.smc_top.specs.declared.asking.Asked.{Asked}
use Rattle.smc_top.specs.declared.report.Report.{Report}
use Rattle.smc_top.specs.declared.status.Status.{Status}
use Rattle.smc_top.specs.declared.status.Status.TheVariants.{Accepted, Rejected, Undecided, Usage, ReadFault, ModelRefused, PropertyRefused, SettingsRefused, TraceFault, WriteFault, OutOfMemory}
use Rattle.smc_top.specs.Codes.{code_of}
use Rattle.model_gen.specs.Ring.{ring}
use Rattle.prism_syntax.specs.declared.models.FlatText.{FlatText}
use Rattle.prism_print.specs.Printed.{printed}
use Rattle.smc_top.specs.RingCheck.{ring_property, ring_test, most_ring_traces, ring_check, ring_lines}
use Rattle.smc_top.specs.Asked.{file_of, Refuses}
use Rattle.smc_top.specs.Report.{IsRefusal, IsRun, IsTraced, IsChecked, Reports, IsAnswer, IsReport, bytes_of, refused, reported, usage, answered}
use Rattle.smc_top.proofs.OneRun.{OneEnd, report_same, runs_same}
use Rattle.smc_top.proofs.OneAsked.{OneFlat, OneModel, OneProperty, flats_same, flat_or_refused, flat_refusal, models_same, model_or_refused, model_refusal, check_asks_one, check_asks_or_refuses, check_refuses_once}

-- words give one command with its settings at most
abbrev pub OneSettings : Type 0
OneSettings = (words : List (List ℕ)) (a b : Settings) → IsSettings words a → IsSettings words b → a ≡ b

-- the status of an exit status
abbrev status_at : ℕ → Status
status_at code =
    get_or (Accepted ∷ Rejected ∷ Undecided ∷ Usage ∷ ReadFault ∷ ModelRefused ∷ PropertyRefused ∷ SettingsRefused ∷ TraceFault ∷ WriteFault ∷ []) code OutOfMemory

-- an exit status is that of one status
status_of_code : (status : Status) → status_at (code_of status) ≡ status
status_of_code Accepted = refl
status_of_code Rejected = refl
status_of_code Undecided = refl
status_of_code Usage = refl
status_of_code ReadFault = refl
status_of_code ModelRefused = refl
status_of_code PropertyRefused = refl
status_of_code SettingsRefused = refl
status_of_code TraceFault = refl
status_of_code WriteFault = refl
status_of_code OutOfMemory = refl

-- statuses of one exit status are one
codes_same : (a b : Status) → code_of a ≡ code_of b → a ≡ b
codes_same a b e = sym (status_of_code a) ∙ (ap status_at e ∙ status_of_code b)

-- what two optional texts are the same
some_same : (a b : List ℕ) → ◌≡◌ {A = Option (List ℕ)} (Some a) (Some b) → a ≡ b
some_same a b e = cc

-- a refusal has one report
refusals_same : (why : Reason) (a b : Report) → IsRefusal why a → IsRefusal why b → a ≡ b
refusals_same why a b p q = report_same a b (codes_same a.status b.status (p.status ∙ sym q.status)) (some_same a.bytes b.bytes (sym p.line ∙ q.line))

-- a command refuses a text for one reason
refuses_once : OneFlat → OneModel → OneProperty → (settings : Settings) (text : List ℕ) (why other : Reason) → Refuses settings text why → Refuses settings text other → why ≡ other
refuses_once flat model one (command.Check name property given seed test limit workers) text why other p q = check_refuses_once model one text property given test limit why other p q
refuses_once flat model one (command.Trace name given seed index steps) text why other p q = model_refusal model text given why other p q
refuses_once flat model one (command.Expand name) text why other p q = flat_refusal flat text why other p q
refuses_once flat model one (command.Make stations seed workers) text why other p q = check_refuses_once model one (ring stations) (ring_property stations) [] ring_test most_ring_traces why other p q
refuses_once flat model one command.Help text why other p q = absurd p

-- what a command refuses it doesn't report on
refuses_or_reports : OneFlat → OneModel → OneProperty → (watched : List Observation) (settings : Settings) (text : List ℕ) (report : Report) (why : Reason) → Reports watched settings text report → Refuses settings text why → ⊥
refuses_or_reports flat model one watched (command.Check name property given seed test limit workers) text report why is refuses =
    check_asks_or_refuses model one text property given seed test limit is.asked why is.asks refuses
refuses_or_reports flat model one watched (command.Trace name given seed index steps) text report why (read, is, traced) refuses = model_or_refused model text given read why is refuses
refuses_or_reports flat model one watched (command.Expand name) text report why (written, has, same) refuses = flat_or_refused flat text written why has refuses
refuses_or_reports flat model one watched (command.Make stations seed workers) text report why is refuses =
    check_asks_or_refuses model one (ring stations) (ring_property stations) [] seed ring_test most_ring_traces is.is_checked.asked why is.is_checked.asks refuses
refuses_or_reports flat model one watched command.Help text report why same refuses = refuses

-- `check` reports one thing on a text
checked_once : OneModel → OneProperty → OneEnd → (watched : List Observation) (name property : List ℕ) (given : List Given) (seed : ℕ) (test : TestWords) (limit workers : ℕ) (text : List ℕ) (a b : Report)
    → IsChecked watched (command.Check name property given seed test limit workers) text a → IsChecked watched (command.Check name property given seed test limit workers) text b → a ≡ b
checked_once model one ends watched name property given seed test limit workers text a b p q =
    let same : q.asked ≡ p.asked = check_asks_one model one text property given seed test limit q.asked p.asked q.asks p.asks in
    runs_same ends (command.Check name property given seed test limit workers) watched p.asked a b p.run
    (subst (λ (v : Asked). IsRun (command.Check name property given seed test limit workers) watched v b) same q.run)

-- a command reports one thing on a text
reports_once : OneFlat → OneModel → OneProperty → OneEnd → (watched : List Observation) (settings : Settings) (text : List ℕ) (a b : Report) → Reports watched settings text a → Reports watched settings text b → a ≡ b
reports_once flat model one ends watched (command.Check name property given seed test limit workers) text a b p q =
    checked_once model one ends watched name property given seed test limit workers text a b p q
reports_once flat model one ends watched (command.Trace name given seed index steps) text a b (read, is, traced) (other, also, drawn) =
    let same : other ≡ read = models_same model text given other read also is in
    let here : IsTraced read.chain seed index steps b = subst (λ (v : Model). IsTraced v.chain seed index steps b) same drawn in
    report_same a b (traced.status ∙ sym here.status) (traced.bytes ∙ sym here.bytes)
reports_once flat model one ends watched (command.Expand name) text a b (written, has, is) (other, also, same) =
    let flats : other ≡ written = flats_same flat text other written also has in
    is ∙ (ap (λ (f : FlatText). record { status = Accepted; bytes = printed f }) (sym flats) ∙ sym same)
reports_once flat model one ends watched (command.Make stations seed workers) text a b p q =
    let same : p.checked ≡ q.checked = checked_once model one ends watched [] (ring_property stations) [] seed ring_test most_ring_traces workers (ring stations) p.checked q.checked p.is_checked q.is_checked in
    report_same a b (p.status ∙ (ap (λ (r : Report). r.status) same ∙ sym q.status))
    (p.bytes ∙ (ap (λ (r : Report). ring_lines stations (length (ring stations)) ++ r.bytes) same ∙ sym q.bytes))
reports_once flat model one ends watched command.Help text a b p q = p ∙ sym q

-- settings are answered one thing over a text
answers_once : OneFlat → OneModel → OneProperty → OneEnd → (watched : List Observation) (settings : Settings) (text : List ℕ) (a b : Report) → IsAnswer watched settings text a → IsAnswer watched settings text b → a ≡ b
answers_once flat model one ends watched settings text a b (refused why p is) (refused other q also) =
    let same : other ≡ why = refuses_once flat model one settings text other why q p in
    refusals_same why a b is (subst (λ (v : Reason). IsRefusal v b) same also)
answers_once flat model one ends watched settings text a b (refused why p is) (reported q) = absurd (refuses_or_reports flat model one watched settings text b why q p)
answers_once flat model one ends watched settings text a b (reported p) (refused why q is) = absurd (refuses_or_reports flat model one watched settings text a why p q)
answers_once flat model one ends watched settings text a b (reported p) (reported q) = reports_once flat model one ends watched settings text a b p q

-- words have one report over the same files
pub reports_same : OneSettings → OneFlat → OneModel → OneProperty → OneEnd → (words : List (List ℕ)) (files : Named) (watched : List Observation) (a b : Report)
    → IsReport words files watched a → IsReport words files watched b → a ≡ b
reports_same settings flat model one ends words files watched a b (usage none is) (usage never also) = refusals_same reason.Usage a b is also
reports_same settings flat model one ends words files watched a b (usage none is) (answered found read answer) = absurd (none found read)
reports_same settings flat model one ends words files watched a b (answered found read answer) (usage none is) = absurd (none found read)
reports_same settings flat model one ends words files watched a b (answered found read answer) (answered other also said) =
    let same : other ≡ found = settings words other found also read in
    answers_once flat model one ends watched found (bytes_of files (file_of found)) a b answer
    (subst (λ (v : Settings). IsAnswer watched v (bytes_of files (file_of v)) b) same said)
