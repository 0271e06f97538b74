-- The traces of a job: trace i starts in the initial state and takes its draws from stream i.
use Rattle.std.specs.Prelude.{ℕ, zero, suc, Bool, Result, Ok}
use Rattle.trace_streams.specs.Draws.{draw_at}
use Rattle.chain_model.specs.declared.job.Job.{Job}
use Rattle.chain_model.specs.declared.outcome.TraceFault.{TraceFault}
use Rattle.chain_model.specs.States.{State, initial_of}
use Rattle.chain_model.specs.Results.{◌>>=◌}
use Rattle.chain_model.specs.Values.{truth}
use Rattle.chain_model.specs.Labels.{value_of}
use Rattle.chain_model.specs.Step.{Configuration, step_of}

-- where a trace stands after so many steps, or the fault in making that state or one before it
unfoldable pub configuration_at : Job → ℕ → ℕ → Result Configuration TraceFault
configuration_at job trace zero = Ok (record { state = initial_of job.chain; position = 0 })
configuration_at job trace (suc k) = do
  from ← configuration_at job trace k
  step ← step_of job.chain (draw_at job.seed trace) from
  Ok step.0

-- the truth of a path formula's first and second state formula in a state
abbrev pub Pair : Type 0
Pair = Bool × Bool

-- the pair of a state: the first state formula is evaluated, and then the second, whether or not the path formula needs them there
abbrev pub pair_of : Job → State → Result Pair TraceFault
pair_of job state = do
  first ← value_of job.chain state job.path.first
  second ← value_of job.chain state job.path.second
  Ok (truth first, truth second)

-- the pair of a trace's state of this number, or the fault in making the state or the pair
unfoldable pub pair_at : Job → ℕ → ℕ → Result Pair TraceFault
pair_at job trace k = configuration_at job trace k >>= λ from. pair_of job from.state
