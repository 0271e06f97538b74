-- Answers over the files of a source, and the reports that they are.
use Rattle.std.proofs.Common.{◌≡◌, ◌⊎◌, ◌∙◌, ◌<◌, inl, inr, ℕ, List, [], Option, Some, None, Result, Ok, Err, IfOk, IfSome, MatchResult, refl, sym, ap, subst, length}
use Rattle.std.specs.declared.alloc.AllocError.{AllocError}
use Rattle.chain_model.specs.Limits.{most_model_bytes}
use Rattle.stop_rules.specs.Observers.{Observation}
use Rattle.smc_io.specs.Bytes.{Told}
use Rattle.smc_io.specs.Files.{Named, bytes_at}
use Rattle.smc_settings.specs.declared.commands.Settings.{Settings}
use Rattle.smc_settings.specs.declared.commands.Settings.TheVariants as command
use Rattle.smc_settings.specs.Settings.{IsSettings}
use Rattle.smc_report.specs.declared.reason.Reason.{Reason}
use Rattle.smc_report.specs.declared.reason.Reason.TheVariants as reason
use Rattle.smc_report.specs.declared.reason.Subject.TheVariants as subject
use Rattle.front_end.specs.Stages as stages
use Rattle.front_end.specs.Models as models
use Rattle.smc_top.specs.declared.prepare.NoReport.{NoReport}
use Rattle.smc_top.specs.declared.prepare.NoReport.TheVariants as no_report
use Rattle.smc_top.specs.declared.report.Report.{Report}
use Rattle.smc_top.specs.declared.status.Status.{Status}
use Rattle.smc_top.specs.declared.status.Status.TheVariants.{WriteFault}
use Rattle.smc_top.specs.Asked.{file_of, Refuses, refuses_model}
use Rattle.smc_top.specs.Outside.{AreFilesOf, IsCutShort, IsDone, IsRefusedOver}
use Rattle.smc_top.specs.Report.{IsRefusal, IsAnswer, IsReport, bytes_of, refused, usage, answered}
use Rattle.smc_top.proofs.AnswerLemmas.{of_each, report_is_proper, accepted_is_done}
use Rattle.smc_top.proofs.FileLemmas.{holds_text, holds_long, some_files}

-- settings are answered a report over files that the source may hold
abbrev pub AnswersOver : List Observation → Settings → Option Named → List ℕ → Report → Type 0
AnswersOver watched settings told name report = (files : Named) × AreFilesOf told files × IsAnswer watched settings (bytes_at files name) report

-- a report is that of words over files that the source may hold
abbrev pub ReportsOver : List (List ℕ) → Option Named → List Observation → Report → Type 0
ReportsOver words told watched report = (files : Named) × AreFilesOf told files × IsReport words files watched report

-- what holds of a report holds of it when it is passed on
pub passed_on : (P : Report → Type 0) (made : Result Report AllocError) (given : Result Report NoReport)
    → MatchResult made (λ report. given ≡ Ok report) (λ lack. given ≡ Err no_report.OutOfMemory) → IfOk made P → IfOk given P
passed_on P (Ok report) given e h = rw e h
passed_on P (Err lack) given e h = rw e tt

-- what is answered on the text that was read is answered over the files
pub answers_read : (watched : List Observation) (settings : Settings) (told : Option Named) (bytes name text : List ℕ) → bytes ≡ name → Told told (λ files. text ≡ bytes_at files bytes)
    → (made : Result Report AllocError) (given : Result Report NoReport) → MatchResult made (λ report. given ≡ Ok report) (λ lack. given ≡ Err no_report.OutOfMemory)
    → IfOk made (IsAnswer watched settings text) → IfOk given (AnswersOver watched settings told name)
answers_read watched settings told bytes name text same whole made given passed answers =
    let held = holds_text told bytes text whole in
    let here : text ≡ bytes_at held.files name = sym held.bytes ∙ ap (bytes_at held.files) same in
    passed_on (AnswersOver watched settings told name) made given passed
    (of_each (IsAnswer watched settings text) (AnswersOver watched settings told name) made
    (λ report is. (held.files, held.are, subst (λ (t : List ℕ). IsAnswer watched settings t report) here is)) answers)

-- a text that is too long is refused by each command that reads one
long_refused : (settings : Settings) (text name : List ℕ) → file_of settings ≡ Some name → most_model_bytes < length text → Refuses settings text (reason.TooLong subject.Model)
long_refused (command.Check model property given seed test limit workers) text name named long = refuses_model (models.has_no_flat (models.is_not_cut (stages.is_long long)))
long_refused (command.Trace model given seed index steps) text name named long = models.has_no_flat (models.is_not_cut (stages.is_long long))
long_refused (command.Expand model) text name named long = models.is_not_cut (stages.is_long long)
long_refused (command.Make stations seed workers) text name named long = absurd cc
long_refused command.Help text name named long = absurd cc

-- where the file is too long its refusal is answered over the files
pub answers_long : (watched : List Observation) (settings : Settings) (told : Option Named) (bytes name : List ℕ) → bytes ≡ name → file_of settings ≡ Some name → Told told (λ files. most_model_bytes < length (bytes_at files bytes))
    → (made : Result Report AllocError) (given : Result Report NoReport) → MatchResult made (λ report. given ≡ Ok report) (λ lack. given ≡ Err no_report.OutOfMemory)
    → IfOk made (IsRefusal (reason.TooLong subject.Model)) → IfOk given (AnswersOver watched settings told name)
answers_long watched settings told bytes name same named long made given passed refuses =
    let held = holds_long told bytes most_model_bytes long in
    let here : most_model_bytes < length (bytes_at held.files name) = subst (λ (n : List ℕ). most_model_bytes < length (bytes_at held.files n)) same held.bytes in
    passed_on (AnswersOver watched settings told name) made given passed
    (of_each (IsRefusal (reason.TooLong subject.Model)) (AnswersOver watched settings told name) made
    (λ report is. (held.files, held.are, refused (reason.TooLong subject.Model) (long_refused settings (bytes_at held.files name) name named here) is)) refuses)

-- what is answered over a file is answered over the one that the settings name
pub answers_named : (watched : List Observation) (settings : Settings) (told : Option Named) (name : List ℕ) (made : Result Report NoReport) → file_of settings ≡ Some name
    → IfOk made (AnswersOver watched settings told name) → IfOk made (λ report. (files : Named) × AreFilesOf told files × IsAnswer watched settings (bytes_of files (file_of settings)) report)
answers_named watched settings told name made named answers =
    subst (λ (o : Option (List ℕ)). IfOk made (λ report. (files : Named) × AreFilesOf told files × IsAnswer watched settings (bytes_of files o) report)) (sym named) answers

-- what needs no file is answered over all files
pub answers_without : (watched : List Observation) (settings : Settings) (told : Option Named) → file_of settings ≡ None
    → (made : Result Report AllocError) (given : Result Report NoReport) → MatchResult made (λ report. given ≡ Ok report) (λ lack. given ≡ Err no_report.OutOfMemory)
    → IfOk made (IsAnswer watched settings []) → IfOk given (λ report. (files : Named) × AreFilesOf told files × IsAnswer watched settings (bytes_of files (file_of settings)) report)
answers_without watched settings told none made given passed answers =
    let some = some_files told in
    subst (λ (o : Option (List ℕ)). IfOk given (λ report. (files : Named) × AreFilesOf told files × IsAnswer watched settings (bytes_of files o) report)) (sym none)
    (passed_on (λ report. (files : Named) × AreFilesOf told files × IsAnswer watched settings [] report) made given passed
    (of_each (IsAnswer watched settings []) (λ report. (files : Named) × AreFilesOf told files × IsAnswer watched settings [] report) made (λ report is. (some.0, some.1, is)) answers))

-- what the settings of words are answered is the words' report
pub reports_answered : (words : List (List ℕ)) (settings : Settings) (told : Option Named) (watched : List Observation) (made : Result Report NoReport) → IsSettings words settings
    → IfOk made (λ report. (files : Named) × AreFilesOf told files × IsAnswer watched settings (bytes_of files (file_of settings)) report) → IfOk made (ReportsOver words told watched)
reports_answered words settings told watched made read answers =
    of_each (λ report. (files : Named) × AreFilesOf told files × IsAnswer watched settings (bytes_of files (file_of settings)) report) (ReportsOver words told watched) made
    (λ report is. (is.0, is.1, answered settings read is.2)) answers

-- words that give no settings have the usage line for a report
pub reports_usage : (words : List (List ℕ)) (told : Option Named) (watched : List Observation) → ((settings : Settings) → IsSettings words settings → ⊥)
    → (made : Result Report AllocError) (given : Result Report NoReport) → MatchResult made (λ report. given ≡ Ok report) (λ lack. given ≡ Err no_report.OutOfMemory)
    → IfOk made (IsRefusal reason.Usage) → IfOk given (ReportsOver words told watched)
reports_usage words told watched none made given passed refuses =
    let some = some_files told in
    passed_on (ReportsOver words told watched) made given passed
    (of_each (IsRefusal reason.Usage) (ReportsOver words told watched) made (λ report is. (some.0, some.1, usage none is)) refuses)

-- the report over some files isn't that of a call that was cut short
pub over_is_proper : (words : List (List ℕ)) (told : Option Named) (watched : List Observation) (report : Report) → ReportsOver words told watched report → ¬ IsCutShort report.status
over_is_proper words told watched report over = report_is_proper words over.0 watched report over.2

-- what nothing refuses is done
pub over_is_done : (words : List (List ℕ)) (told : Option Named) (watched : List Observation) (report : Report) (result : Status) → result ≡ report.status → ReportsOver words told watched report
    → Told told (λ files. ¬ IsRefusedOver words files → IsDone result)
over_is_done words None watched report result same over = tt
over_is_done words (Some known) watched report result same over = λ accepted.
    subst IsDone (sym same) (accepted_is_done words known watched report (subst (λ (files : Named). IsReport words files watched report) over.1 over.2) accepted)

-- where a report was to be written and the answer is that of a call that was cut short, the sink failed
pub write_failed : (report : Report) (result : Status) {Same Whole Failed Part : Type 0} → ¬ IsCutShort report.status → (Same × (result ≡ report.status) × Whole) ⊎ (Failed × (result ≡ WriteFault) × Part)
    → IsCutShort result → Failed × (result ≡ WriteFault) × Part
write_failed report result proper (inl written) cut = absurd (proper (subst IsCutShort written.1 cut))
write_failed report result proper (inr failed) cut = failed
