-- The report of a trace, line by line.
use Rattle.std.specs.Prelude.{◌≡◌, ℕ, zero, suc, ℤ, List, [], ◌++◌, Option, Some, None, Result, Ok, Err, IsErr, IsOkAnd}
use Rattle.std.specs.declared.vec.Vec.{Vec}
use Rattle.std.specs.declared.alloc.Global.{Global}
use Rattle.chain_model.specs.declared.outcome.TraceFault.{TraceFault}
use Rattle.chain_model.specs.declared.chain.Chain.{Chain}
use Rattle.chain_model.specs.declared.steps.Taken.{Taken}
use Rattle.chain_model.specs.Step.{Configuration, step_of}
use Rattle.trace_meaning.specs.Counted.{limited_choices}
use Rattle.trace_report.specs.States.{configuration_after, draws_taken}
use Rattle.trace_report.specs.Lines.{state_line, choices_line, taken_line, fault_line, draws_line}

-- the line of a step: what it takes, or its fault, with the number of the state that was to be made
abbrev pub step_line : Chain → ℕ → Result (Configuration × Taken) TraceFault → List ℕ
step_line chain number (Ok step) = taken_line chain step.1
step_line chain number (Err fault) = fault_line chain number fault

-- the lines of a state that was made, and of the step from it
unfoldable pub lines_from : Chain → (ℕ → ℕ) → ℕ → Configuration → List ℕ
lines_from chain draw number from =
    state_line chain number from.state
    ++ (choices_line chain (limited_choices chain from.state) ++ step_line chain (suc number) (step_of chain draw from))

-- the lines of the state of a number and of the step from it, where that state was made
abbrev pub lines_of : Chain → (ℕ → ℕ) → ℕ → Result Configuration TraceFault → List ℕ
lines_of chain draw number (Ok from) = lines_from chain draw number from
lines_of chain draw number (Err fault) = []

-- the lines of the states before this number, and of the steps from them
unfoldable pub lines_before : Chain → (ℕ → ℕ) → ℕ → List ℕ
lines_before chain draw zero = []
lines_before chain draw (suc k) = lines_before chain draw k ++ lines_of chain draw k (configuration_after chain draw k)

-- the line of the last state, where that was made
abbrev pub last_line : Chain → ℕ → Result Configuration TraceFault → List ℕ
last_line chain number (Ok from) = state_line chain number from.state
last_line chain number (Err fault) = []

-- the report of a trace of so many steps
abbrev pub trace_text : Chain → (ℕ → ℕ) → ℕ → List ℕ
trace_text chain draw steps =
    lines_before chain draw steps
    ++ (last_line chain steps (configuration_after chain draw steps) ++ draws_line (draws_taken chain draw steps))

-- the next state of a trace, and the position of its draws; where there is none the step faults, and the draws stay
abbrev pub IsNext : Option (Vec ℤ Global) → ℕ → ℕ → Result (Configuration × Taken) TraceFault → Type 0
IsNext (Some next) before position defined =
    IsOkAnd defined (λ step. step.0 ≡ record { state = next.items; position = position })
IsNext None before position defined = IsErr defined × (position ≡ before)
