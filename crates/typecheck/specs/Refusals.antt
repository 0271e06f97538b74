-- Refusals in order: the first cause that holds is told.
use Rattle.std.specs.Prelude.{Option, MatchOption, Bool, true, false, None, Some}
use Rattle.typecheck.specs.declared.fault.TypeFault.{TypeFault}
use Rattle.typecheck.specs.declared.fault.TypeFault.TheVariants as fault

-- something is wrong and the fault tells it, or nothing is and the fault is a later one
abbrev pub Tells : {X : Type 0} → Option X → (X → TypeFault → Type 0) → (TypeFault → Type 0) → TypeFault → Type 0
Tells wrong Is later fault = MatchOption wrong (later fault) (λ x. Is x fault)

-- something is wrong, and the fault tells it
abbrev pub IsTold : {X : Type 0} → Option X → (X → TypeFault → Type 0) → TypeFault → Type 0
IsTold wrong Is fault = MatchOption wrong ⊥ (λ x. Is x fault)

-- something is wrong where a test fails
abbrev pub failing : Bool → Option (Unit {0})
failing true = None
failing false = Some tt

-- memory ran out
abbrev pub IsOutOfMemory : TypeFault → Type 0
IsOutOfMemory (fault.OutOfMemory error) = Unit {0}
IsOutOfMemory (fault.UnknownName name) = ⊥
IsOutOfMemory (fault.UnknownLabel name) = ⊥
IsOutOfMemory (fault.WrongType item) = ⊥
IsOutOfMemory (fault.BadNumber item cause) = ⊥
IsOutOfMemory (fault.BadRange name) = ⊥
IsOutOfMemory (fault.InitOutside name) = ⊥
IsOutOfMemory (fault.ForeignWrite name) = ⊥
IsOutOfMemory (fault.GlobalInSync name) = ⊥
IsOutOfMemory (fault.WrittenTwice name) = ⊥
IsOutOfMemory fault.TooLarge = ⊥
IsOutOfMemory fault.BadHorizon = ⊥
