-- Why a text gives nothing: a reason to refuse it, or want of memory.
use Rattle.std.specs.Prelude.{◌≡◌, IsSome}
use Rattle.smc_report.specs.declared.reason.Reason.{Reason}
use Rattle.smc_report.specs.Refusals.{row_of}
use Rattle.front_end.specs.declared.stop.Stop.{Stop}
use Rattle.front_end.specs.declared.stop.Stop.TheVariants.{Refused, OutOfMemory}

-- a stop tells a reason to refuse; want of memory tells nothing
abbrev pub StopTells : (Reason → Type 0) → Stop → Type 0
StopTells Refuses (Refused refusal) = Refuses refusal
StopTells Refuses (OutOfMemory error) = Unit {0}

-- nothing is refused
abbrev pub IsAccepted : {Fault : Type 0} → (Fault → Type 0) → Type 0
IsAccepted {Fault} Refuses = (fault : Fault) → ¬ Refuses fault

-- the reason is that a stage tells a fault which refuses
abbrev pub IsReasonOf : {Fault : Type 0} → (Fault → Reason) → (Fault → Type 0) → Reason → Type 0
IsReasonOf {Fault} make Refuses reason = (fault : Fault) × (reason ≡ make fault) × Refuses fault

-- a stop is for this reason, which is a refusal, or for want of memory
abbrev pub StopsFor : Reason → Stop → Type 0
StopsFor reason (Refused refusal) = (refusal ≡ reason) × IsSome (row_of reason)
StopsFor reason (OutOfMemory error) = Unit {0}
