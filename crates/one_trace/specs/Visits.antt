-- What is found out where a trace has come to a state.
use Rattle.std.specs.Prelude.{◌≡◌, ℕ, List, Option, Ok}
use Rattle.trace_streams.specs.Draws.{Place}
use Rattle.chain_model.specs.declared.job.Job.{Job}
use Rattle.chain_model.specs.declared.outcome.Outcome.{Outcome}
use Rattle.chain_model.specs.States.{State}
use Rattle.chain_model.specs.Trace.{Pair, pair_of}
use Rattle.chain_model.specs.Outcome.{IsOutcome}
use Rattle.path_monitor.specs.declared.monitor.Monitor.{Monitor}
use Rattle.one_trace.specs.declared.visits.Visited.{Visited}
use Rattle.one_trace.specs.declared.visits.Visited.TheVariants as v
use Rattle.one_trace.specs.Numbers.{IsAt}
use Rattle.one_trace.specs.Underway.{IsUnderway, IsVisited}

-- after so many steps a trace is underway at the state of the number, or at the one that is written out
pub record IsUnderwayAt (job : Job) (trace step : ℕ) (monitor : Monitor) (states : List State) (number : Option ℕ)
    (written : State) (draws : Place) : Type 0 where
  pub state : State
  pub here : IsAt states number written state
  pub underway : IsUnderway job trace step monitor state draws

-- a trace has this outcome, or is underway after so many steps
abbrev pub IsComeTo : Job → ℕ → ℕ → Monitor → List State → State → Place → Visited → Type 0
IsComeTo job trace step monitor states written draws (v.Settled outcome) = IsOutcome job trace outcome
IsComeTo job trace step monitor states written draws (v.At number) = IsUnderwayAt job trace step monitor states number written draws

-- a trace that comes to a state with this pair has this outcome
abbrev pub SettlesAs : Monitor → Pair → Outcome → Type 0
SettlesAs monitor pair outcome = (job : Job) (trace step : ℕ) (state : State) (draws : Place)
    → IsUnderway job trace step monitor state draws → pair_of job state ≡ Ok pair → IsOutcome job trace outcome

-- a trace that comes to a state with this pair isn't settled there
abbrev pub LeavesOpen : Monitor → Monitor → Pair → Type 0
LeavesOpen monitor next pair = (job : Job) (trace step : ℕ) (state : State) (draws : Place)
    → IsUnderway job trace step monitor state draws → pair_of job state ≡ Ok pair → IsVisited job trace step next state draws pair
