-- Want of memory is no refusal.
use Rattle.std.proofs.Common.{sym, subst, inl, inr}
use Rattle.std.specs.Prelude.{◌⊎◌, IsSome, IfErr, Result, Ok, Err}
use Rattle.module_expand.specs.declared.fault.ExpandFault.{ExpandFault}
use Rattle.module_expand.specs.declared.fault.ExpandFault.TheVariants as expand
use Rattle.module_expand.specs.Refusals as expanding
use Rattle.const_eval.specs.declared.fault.ConstFault.{ConstFault}
use Rattle.const_eval.specs.declared.fault.ConstFault.TheVariants as const
use Rattle.const_eval.specs.Refusals as constants
use Rattle.typecheck.specs.declared.fault.TypeFault.{TypeFault}
use Rattle.typecheck.specs.declared.fault.TypeFault.TheVariants as type
use Rattle.typecheck.specs.Refusals as typing
use Rattle.smc_report.specs.declared.reason.Reason.{Reason}
use Rattle.smc_report.specs.declared.reason.Reason.TheVariants as reason
use Rattle.smc_report.specs.declared.reason.Subject.{Subject}
use Rattle.smc_report.specs.Refusals.{row_of}
use Rattle.front_end.specs.declared.stop.Stop.{Stop}
use Rattle.front_end.specs.declared.stop.Stop.TheVariants.{Refused, OutOfMemory}
use Rattle.front_end.specs.Stops.{StopTells, StopsFor, IsReasonOf}

-- a stop for a reason tells what the reason does, where that is a refusal
pub stop_told : (Refuses : Reason → Type 0) (why : Reason) (stop : Stop) → StopsFor why stop → (IsSome (row_of why) → Refuses why) → StopTells Refuses stop
stop_told Refuses why (Refused refusal) stops refused = subst Refuses (sym stops.0) (refused stops.1)
stop_told Refuses why (OutOfMemory error) stops refused = tt

-- a fault of expansion with a row is no want of memory
pub is_expand_fault : (about : Subject) (fault : ExpandFault) → IsSome (row_of (reason.Expand about fault)) → expanding.IsOutOfMemory fault → ⊥
is_expand_fault about (expand.Duplicate name) row out = out
is_expand_fault about (expand.FormulaCycle name) row out = out
is_expand_fault about (expand.NoSuchModule name) row out = out
is_expand_fault about (expand.RenameLeavesVariable name) row out = out
is_expand_fault about (expand.RenameTwice name) row out = out
is_expand_fault about (expand.RenameToFormula name) row out = out
is_expand_fault about expand.TooLarge row out = out
is_expand_fault about (expand.OutOfMemory error) row out = cc

-- a fault of constants with a row is no want of memory
pub is_const_fault : (fault : ConstFault) → IsSome (row_of (reason.Const fault)) → constants.IsOutOfMemory fault → ⊥
is_const_fault (const.Undefined name) row out = out
is_const_fault (const.Unknown name) row out = out
is_const_fault (const.GivenTwice name) row out = out
is_const_fault (const.Cycle name) row out = out
is_const_fault (const.WrongType name) row out = out
is_const_fault (const.Num name fault) row out = out
is_const_fault (const.OutOfMemory error) row out = cc

-- a fault of types with a row is no want of memory
pub is_type_fault : (about : Subject) (fault : TypeFault) → IsSome (row_of (reason.Type about fault)) → typing.IsOutOfMemory fault → ⊥
is_type_fault about (type.OutOfMemory error) row out = cc
is_type_fault about (type.UnknownName name) row out = out
is_type_fault about (type.UnknownLabel name) row out = out
is_type_fault about (type.WrongType item) row out = out
is_type_fault about (type.BadNumber item fault) row out = out
is_type_fault about (type.BadRange name) row out = out
is_type_fault about (type.InitOutside name) row out = out
is_type_fault about (type.ForeignWrite name) row out = out
is_type_fault about (type.GlobalInSync name) row out = out
is_type_fault about (type.WrittenTwice name) row out = out
is_type_fault about type.TooLarge row out = out
is_type_fault about type.BadHorizon row out = out

-- of want of memory or a refusal it is the refusal
pub the_refusal : {A B : Type 0} → (A → ⊥) → A ⊎ B → B
the_refusal none (inl a) = absurd (none a)
the_refusal none (inr b) = b

-- what one relation of reasons gives another, it gives for what a stop tells
pub stop_map : (P Q : Reason → Type 0) → ((why : Reason) → P why → Q why) → (stop : Stop) → StopTells P stop → StopTells Q stop
stop_map P Q give (Refused refusal) told = give refusal told
stop_map P Q give (OutOfMemory error) told = tt

pub answer_map : {X : Type 0} (P Q : Reason → Type 0) → ((why : Reason) → P why → Q why) → (answer : Result X Stop) → IfErr answer (StopTells P) → IfErr answer (StopTells Q)
answer_map P Q give (Ok x) told = tt
answer_map P Q give (Err stop) told = stop_map P Q give stop told

-- a stage that refuses with a fault gives what is to be told of the fault's reason
pub from_fault : {Fault : Type 0} (make : Fault → Reason) (Refuses : Fault → Type 0) (Q : Reason → Type 0)
    → ((fault : Fault) → Refuses fault → Q (make fault)) → (why : Reason) → IsReasonOf make Refuses why → Q why
from_fault make Refuses Q give why reason = subst Q (sym reason.1) (give reason.0 reason.2)
