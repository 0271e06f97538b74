-- The statuses of refusals, of runs and of traces.
use Rattle.std.proofs.Common.{◌≡◌, ◌≢◌, ℕ, ◌≤◌, List, [], Ok, Err, Result, refl, arith}
use Rattle.std.specs.Bool.{⊤}
use Rattle.chain_model.specs.declared.constants.Given.{Given}
use Rattle.chain_model.specs.declared.job.Path.{Path}
use Rattle.chain_model.specs.declared.job.Claim.{Claim}
use Rattle.chain_model.specs.Limits.{most_model_bytes, most_property_bytes}
use Rattle.chain_model.specs.declared.outcome.TraceFault.{TraceFault}
use Rattle.chain_model.specs.Step.{Configuration}
use Rattle.stop_rules.specs.declared.end.Cause.{Cause}
use Rattle.stop_rules.specs.declared.end.Cause.TheVariants as cause
use Rattle.smc_settings.specs.declared.commands.Settings.{Settings}
use Rattle.smc_settings.specs.declared.commands.Settings.TheVariants as command
use Rattle.smc_settings.specs.declared.commands.TestWords.{TestWords}
use Rattle.model_gen.specs.Ring.{ring}
use Rattle.smc_top.specs.RingCheck.{ring_property, ring_test, most_ring_traces}
use Rattle.smc_report.specs.declared.reason.Reason.{Reason}
use Rattle.smc_report.specs.declared.reason.Reason.TheVariants as reason
use Rattle.smc_report.specs.declared.reason.Subject.{Subject}
use Rattle.smc_report.specs.declared.reason.Subject.TheVariants as subject
use Rattle.smc_report.specs.Refusals.{status_for, status_of}
use Rattle.prism_syntax.specs.declared.tokens.Token.{Token}
use Rattle.prism_syntax.specs.declared.models.FlatText.{FlatText}
use Rattle.front_end.specs.declared.models.Model.{Model}
use Rattle.front_end.specs.Stages as stages
use Rattle.front_end.specs.Models as models
use Rattle.front_end.specs.Properties as properties
use Rattle.smc_top.specs.declared.status.Status.{Status}
use Rattle.smc_top.specs.declared.status.Status.TheVariants.{Accepted, Rejected, Undecided, Usage, ReadFault, ModelRefused, PropertyRefused, SettingsRefused, TraceFault as TraceFaulted, WriteFault, OutOfMemory}
use Rattle.smc_top.specs.Codes.{code_of}
use Rattle.smc_top.specs.Asked as asking
use Rattle.smc_top.specs.Outside.{IsCutShort, IsDone}
use Rattle.smc_top.specs.Report.{status_of_run, status_of_trace}

-- a refusal whose status is none of these is one of the settings
pub last_status : (why : Reason) → status_of why ≢ 3 → status_of why ≢ 4 → status_of why ≢ 5 → status_of why ≢ 6 → 7 ≡ status_of why
last_status reason.Usage a b c d = absurd (a refl)
last_status reason.ReadFault a b c d = absurd (b refl)
last_status (reason.TooLong subject.Model) a b c d = absurd (c refl)
last_status (reason.TooLong subject.Property) a b c d = absurd (d refl)
last_status (reason.Lex subject.Model fault) a b c d = absurd (c refl)
last_status (reason.Lex subject.Property fault) a b c d = absurd (d refl)
last_status (reason.Parse subject.Model fault) a b c d = absurd (c refl)
last_status (reason.Parse subject.Property fault) a b c d = absurd (d refl)
last_status (reason.Expand subject.Model fault) a b c d = absurd (c refl)
last_status (reason.Expand subject.Property fault) a b c d = absurd (d refl)
last_status (reason.Const fault) a b c d = absurd (c refl)
last_status (reason.Type subject.Model fault) a b c d = absurd (c refl)
last_status (reason.Type subject.Property fault) a b c d = absurd (d refl)
last_status (reason.Settings fault) a b c d = refl

-- a reason that is told has this status
abbrev HasStatus : {X : Type 0} → ℕ → Result X Reason → Type 0
HasStatus number (Ok x) = ⊤
HasStatus number (Err why) = status_of why ≡ number

-- a text that isn't cut into tokens is refused with its status
cut_status : (about : Subject) (most : ℕ) (text : List ℕ) (told : Result (List Token) Reason) → stages.CutTells about most text told → HasStatus (status_for about) told
cut_status about most text told (stages.is_long long) = refl
cut_status about most text told (stages.is_not_cut short is) = refl
cut_status about most text told (stages.is_cut short is) = tt

-- a flat text is refused with the status of a model
flat_status : (flat : FlatText) (given : List Given) (why : Reason) → models.RefusesFlat flat given why → status_of why ≡ 5
flat_status flat given why (models.has_no_values is) = refl
flat_status flat given why (models.has_no_type values is) = refl

-- a text without a flat text is refused with the status of a model
pub flat_told_status : (text : List ℕ) (told : Result FlatText Reason) → models.FlatTells text told → HasStatus 5 told
flat_told_status text told (models.is_not_cut cut) = cut_status subject.Model most_model_bytes text (Err _) cut
flat_told_status text told (models.is_not_parsed cut parsed) = refl
flat_told_status text told (models.is_not_expanded tree refuses) = refl
flat_told_status text told (models.is_flat has) = tt

-- a model is refused with its status
pub model_status : (text : List ℕ) (given : List Given) (told : Result Model Reason) → models.ModelTells text given told → HasStatus 5 told
model_status text given told (models.has_no_flat {why} tells) = flat_told_status text (Err why) tells
model_status text given told (models.is_not_typed flat refuses) = flat_status _ given _ refuses
model_status text given told (models.is_model is) = tt

-- a property is refused with its status
pub property_status : (text : List ℕ) (model : Model) (told : Result (Path × Claim) Reason) → properties.PropertyTells text model told → HasStatus 6 told
property_status text model told (properties.is_not_cut cut) = cut_status subject.Property most_property_bytes text (Err _) cut
property_status text model told (properties.is_not_parsed cut parsed) = refl
property_status text model told (properties.is_too_large tree large) = refl
property_status text model told (properties.has_no_type flat refuses) = refl
property_status text model told (properties.is_question is) = tt

-- the status of a text or of settings that are refused
abbrev IsTextStatus : ℕ → Type 0
IsTextStatus number = (5 ≤ number) × (number ≤ 7)

-- a question is refused with such a status
question_status : (property : List ℕ) (model : Model) (test : TestWords) (limit : ℕ) (why : Reason) → asking.RefusesQuestion property model test limit why → IsTextStatus (status_of why)
question_status property model test limit why (asking.refuses_property tells) = let is = property_status property model (Err why) tells in (omega (arith, is), omega (arith, is))
question_status property model test limit why (asking.refuses_test question made) = (omega arith, omega arith)

-- what `check` asks is refused with such a status
check_status : (text property : List ℕ) (given : List Given) (test : TestWords) (limit : ℕ) (why : Reason) → asking.RefusesCheck text property given test limit why → IsTextStatus (status_of why)
check_status text property given test limit why (asking.refuses_model tells) = let is = model_status text given (Err why) tells in (omega (arith, is), omega (arith, is))
check_status text property given test limit why (asking.refuses_question {model} read refuses) = question_status property model test limit why refuses

-- a command refuses a text with such a status
pub refused_status : (settings : Settings) (text : List ℕ) (why : Reason) → asking.Refuses settings text why → IsTextStatus (status_of why)
refused_status (command.Check model property given seed test limit workers) text why refuses = check_status text property given test limit why refuses
refused_status (command.Trace model given seed index steps) text why refuses = let is = model_status text given (Err why) refuses in (omega (arith, is), omega (arith, is))
refused_status (command.Expand model) text why refuses = let is = flat_told_status text (Err why) refuses in (omega (arith, is), omega (arith, is))
refused_status (command.Make stations seed workers) text why refuses = check_status (ring stations) (ring_property stations) [] ring_test most_ring_traces why refuses
refused_status command.Help text why refuses = absurd refuses

-- an exit status up to 8 that isn't that of a read fault is none of a call that was cut short
pub not_cut_short : (status : Status) → code_of status ≢ 4 → code_of status ≤ 8 → ¬ IsCutShort status
not_cut_short Accepted other low cut = cut
not_cut_short Rejected other low cut = cut
not_cut_short Undecided other low cut = cut
not_cut_short Usage other low cut = cut
not_cut_short ReadFault other low cut = other refl
not_cut_short ModelRefused other low cut = cut
not_cut_short PropertyRefused other low cut = cut
not_cut_short SettingsRefused other low cut = cut
not_cut_short TraceFaulted other low cut = cut
not_cut_short WriteFault other low cut = absurd (omega arith)
not_cut_short OutOfMemory other low cut = absurd (omega arith)

-- a run is done with each status that it has
pub run_is_done : (found : Cause) → IsDone (status_of_run found)
run_is_done cause.Accept = tt
run_is_done cause.Reject = tt
run_is_done cause.Close = tt
run_is_done cause.Limit = tt
run_is_done cause.Fault = tt

-- so is a trace
pub trace_is_done : (last : Result Configuration TraceFault) → IsDone (status_of_trace last)
trace_is_done (Ok last) = tt
trace_is_done (Err fault) = tt

-- what is done isn't cut short
pub done_not_cut_short : (status : Status) → IsDone status → ¬ IsCutShort status
done_not_cut_short Accepted done cut = cut
done_not_cut_short Rejected done cut = cut
done_not_cut_short Undecided done cut = cut
done_not_cut_short Usage done cut = cut
done_not_cut_short ReadFault done cut = done
done_not_cut_short ModelRefused done cut = cut
done_not_cut_short PropertyRefused done cut = cut
done_not_cut_short SettingsRefused done cut = cut
done_not_cut_short TraceFaulted done cut = cut
done_not_cut_short WriteFault done cut = done
done_not_cut_short OutOfMemory done cut = done
