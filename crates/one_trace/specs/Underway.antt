-- A trace on its way: its first pairs have settled nothing yet.
use Rattle.std.specs.Prelude.{◌≡◌, ℕ, ◌*◌, ◌≤◌, List, [], ◌∷◌, ◌++◌, Ok, length}
use Rattle.trace_streams.specs.Draws.{Place}
use Rattle.chain_model.specs.declared.job.Job.{Job}
use Rattle.chain_model.specs.States.{State, IsState}
use Rattle.chain_model.specs.Trace.{Pair, configuration_at, pair_of}
use Rattle.chain_model.specs.Outcome.{AreFirstPairs}
use Rattle.path_monitor.specs.declared.monitor.Monitor.{Monitor}
use Rattle.path_monitor.specs.Watching.{HasSeen}

-- after so many steps a trace is in this state, with its draws at this place, and its monitor has seen the pairs before
pub record IsUnderway (job : Job) (trace step : ℕ) (monitor : Monitor) (state : State) (draws : Place) : Type 0 where
  pub pairs : List Pair
  pub many : length pairs ≡ step
  pub at : configuration_at job trace step ≡ Ok (record { state = state; position = draws.place })
  pub stream : draws ≡ record { seed = job.seed; trace = trace; place = draws.place }
  pub few : draws.place ≤ 65 * step
  pub fits : IsState job.chain state
  pub first : AreFirstPairs job trace pairs
  pub kind : monitor.kind ≡ job.path.kind
  pub seen : HasSeen monitor pairs

-- the same, and the monitor has seen the pair of this state too, which settles nothing either
pub record IsVisited (job : Job) (trace step : ℕ) (monitor : Monitor) (state : State) (draws : Place) (pair : Pair) : Type 0 where
  pub pairs : List Pair
  pub many : length pairs ≡ step
  pub at : configuration_at job trace step ≡ Ok (record { state = state; position = draws.place })
  pub stream : draws ≡ record { seed = job.seed; trace = trace; place = draws.place }
  pub few : draws.place ≤ 65 * step
  pub fits : IsState job.chain state
  pub first : AreFirstPairs job trace pairs
  pub here : pair_of job state ≡ Ok pair
  pub kind : monitor.kind ≡ job.path.kind
  pub seen : HasSeen monitor (pairs ++ (pair ∷ []))
