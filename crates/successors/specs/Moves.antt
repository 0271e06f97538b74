-- What a move makes of a state and of the draws, and what a step needs.
use Rattle.std.specs.Prelude.{ℕ, ◌+◌, List, map, sum, Result, Ok, Err}
use Rattle.chain_model.specs.declared.outcome.TraceFault.{TraceFault}
use Rattle.chain_model.specs.declared.chain.Chain.{Chain}
use Rattle.chain_model.specs.Results.{◌>>=◌}
use Rattle.chain_model.specs.States.{State}
use Rattle.chain_model.specs.Step.{Configuration, all_sets, branches_of, command_draws, step_of}
use Rattle.trace_meaning.specs.Assigning.{assigned_to}
use Rattle.trace_meaning.specs.Stepped.{choice_taken}

-- a step without what it takes: the configuration that it leads to, or its fault
abbrev pub next_of : Chain → (ℕ → ℕ) → Configuration → Result Configuration TraceFault
next_of chain draw from = step_of chain draw from >>= λ step. Ok step.0

-- what a result says of the state and of the place of the draws after it
abbrev pub came : {X : Type 0} → Result X TraceFault → State → ℕ → Result Configuration TraceFault
came (Ok x) state place = Ok (record { state = state; position = place })
came (Err fault) state place = Err fault

-- the commands of the choice that a step takes, and the position of the draws after it
abbrev pub commands_taken : Chain → (ℕ → ℕ) → State → ℕ → Result (List ℕ × ℕ) TraceFault
commands_taken chain draw state position = choice_taken chain draw state position >>= λ taken. Ok (taken.0.commands, taken.1)

-- what follows the choice: the branches of its commands, by the draws from a position on, and what they assign
abbrev pub after_commands : Chain → (ℕ → ℕ) → State → List ℕ × ℕ → Result Configuration TraceFault
after_commands chain draw state taken = do
  branches ← branches_of chain draw state taken.1 taken.0
  next ← assigned_to chain state state (all_sets chain taken.0 branches)
  Ok (record { state = next; position = taken.1 + sum (map (command_draws chain) taken.0) })
