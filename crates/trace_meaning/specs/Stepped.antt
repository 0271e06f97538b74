-- A step in parts: the choice that is taken, the branches of its commands, and what they assign.
use Rattle.std.specs.Prelude.{◌≡◌, ℕ, ◌+◌, ℤ, List, length, Result, Ok, Err, if◌then◌else◌}
use Rattle.std.specs.declared.vec.Vec.{Vec}
use Rattle.std.specs.declared.alloc.Global.{Global}
use Rattle.chain_model.specs.declared.outcome.TraceFault.{TraceFault}
use Rattle.chain_model.specs.declared.chain.Chain.{Chain}
use Rattle.chain_model.specs.declared.steps.Choice.{Choice}
use Rattle.chain_model.specs.declared.steps.Taken.{Taken}
use Rattle.chain_model.specs.Results.{◌>>=◌}
use Rattle.chain_model.specs.States.{State}
use Rattle.chain_model.specs.Step.{Configuration, choice_of, draws_for, is_drawn}
use Rattle.trace_streams.specs.Pick.{pick_of}
use Rattle.trace_meaning.specs.Counted.{limited_choices}
use Rattle.trace_meaning.specs.declared.fault.StepFault.{StepFault}
use Rattle.trace_meaning.specs.declared.fault.StepFault.TheVariants.{Trace, OutOfMemory}

-- the number of the choice that is taken of so many: of several the one that a draw picks
abbrev pub choice_number : ℕ → ℕ → ℕ
choice_number drawn count = if is_drawn count then pick_of drawn count else 0

-- the choice that a step takes, and the position of the draws after it
abbrev pub choice_taken : Chain → (ℕ → ℕ) → State → ℕ → Result (Choice × ℕ) TraceFault
choice_taken chain draw state position =
    limited_choices chain state >>= λ choices. Ok (choice_of draw position choices, position + draws_for (length choices))

-- a result with the position of the draws beside it
abbrev pub at_position : {X : Type 0} → ℕ → Result X StepFault → Result (X × ℕ) StepFault
at_position position (Ok x) = Ok (x, position)
at_position position (Err fault) = Err fault

-- the items of a list that was made
abbrev pub items_in : Result (Vec ℤ Global) StepFault → Result (List ℤ) StepFault
items_in (Ok list) = Ok list.items
items_in (Err fault) = Err fault

-- the result is the step that the definition gives, and the draws stand at its position; or it is the definition's
-- fault, unless memory ran out
abbrev pub GivesStep : Result (Vec ℤ Global × Taken) StepFault → ℕ → Result (Configuration × Taken) TraceFault → Type 0
GivesStep (Ok step) position defined = defined ≡ Ok (record { state = step.0.items; position = position }, step.1)
GivesStep (Err (Trace fault)) position defined = defined ≡ Err fault
GivesStep (Err (OutOfMemory error)) position defined = Unit {0}
