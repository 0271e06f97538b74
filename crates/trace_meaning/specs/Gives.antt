-- What a call gives, where memory may run out: the one free answer.
use Rattle.std.specs.Prelude.{◌≡◌, Result, Ok, Err}
use Rattle.chain_model.specs.declared.outcome.TraceFault.{TraceFault}
use Rattle.trace_meaning.specs.declared.fault.StepFault.{StepFault}
use Rattle.trace_meaning.specs.declared.fault.StepFault.TheVariants.{Trace, OutOfMemory}

-- the result is what the definition gives, a value or a fault, unless memory ran out
abbrev pub Gives : {X : Type 0} → Result X StepFault → Result X TraceFault → Type 0
Gives (Ok x) defined = defined ≡ Ok x
Gives (Err (Trace fault)) defined = defined ≡ Err fault
Gives (Err (OutOfMemory error)) defined = Unit {0}
