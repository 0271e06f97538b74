-- The states of a trace of a chain: it starts in the initial state, and `draw` gives the draw at each position of its
-- stream.
use Rattle.std.specs.Prelude.{ℕ, zero, suc, Result, Ok, Err}
use Rattle.chain_model.specs.declared.outcome.TraceFault.{TraceFault}
use Rattle.chain_model.specs.declared.chain.Chain.{Chain}
use Rattle.chain_model.specs.Results.{◌>>=◌}
use Rattle.chain_model.specs.States.{initial_of}
use Rattle.chain_model.specs.Step.{Configuration, step_of}

-- where a trace stands after so many steps, or the fault in making that state or one before it
unfoldable pub configuration_after : Chain → (ℕ → ℕ) → ℕ → Result Configuration TraceFault
configuration_after chain draw zero = Ok (record { state = initial_of chain; position = 0 })
configuration_after chain draw (suc k) = do
  from ← configuration_after chain draw k
  step ← step_of chain draw from
  Ok step.0

-- the position in the stream at which a configuration stands, or another where there is none
abbrev pub position_in : Result Configuration TraceFault → ℕ → ℕ
position_in (Ok from) before = from.position
position_in (Err fault) before = before

-- how many draws were taken to make the last state that was made, of those up to this number
unfoldable pub draws_taken : Chain → (ℕ → ℕ) → ℕ → ℕ
draws_taken chain draw zero = 0
draws_taken chain draw (suc k) = position_in (configuration_after chain draw (suc k)) (draws_taken chain draw k)
