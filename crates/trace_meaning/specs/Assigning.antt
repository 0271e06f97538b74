-- Assignments made one after another in a copy of the old state, all right sides evaluated in the old state.
use Rattle.std.specs.Prelude.{◌≡◌, ℕ, List, Result, Ok, Err}
use Rattle.chain_model.specs.declared.outcome.TraceFault.{TraceFault}
use Rattle.chain_model.specs.declared.expressions.Typed.{Typed}
use Rattle.chain_model.specs.declared.chain.Chain.{Chain}
use Rattle.chain_model.specs.Results.{◌>>=◌, each}
use Rattle.chain_model.specs.States.{State}
use Rattle.chain_model.specs.Step.{assignment_of, after_assignments}

-- the state that a copy becomes by assignments whose right sides are evaluated in the old state, or the first fault
abbrev pub assigned_to : Chain → State → State → List (ℕ × Typed) → Result State TraceFault
assigned_to chain state copy sets = each (assignment_of chain state) sets >>= λ assigned. Ok (after_assignments copy assigned)

-- what was written is what the definition gives, or its fault is told
abbrev pub Writes : Result (Unit {0}) TraceFault → State → Result State TraceFault → Type 0
Writes (Ok _) copy defined = defined ≡ Ok copy
Writes (Err fault) copy defined = defined ≡ Err fault
