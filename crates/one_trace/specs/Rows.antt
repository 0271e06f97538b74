-- What a row says of a state, by the numbers of states.
use Rattle.std.specs.Prelude.{◌≡◌, ℕ, List, [], Some, Ok, slice_get}
use Rattle.chain_model.specs.declared.chain.Chain.{Chain}
use Rattle.chain_model.specs.declared.job.Job.{Job}
use Rattle.chain_model.specs.States.{State}
use Rattle.chain_model.specs.Choices.{choices_of}
use Rattle.chain_model.specs.Trace.{pair_of}
use Rattle.successors.specs.Nexts.{LeadsTo, LeadsByDraw}
use Rattle.one_trace.specs.declared.rows.Row.{Row}
use Rattle.one_trace.specs.declared.rows.Row.TheVariants as r

-- each step from a state leads to the state of this number
pub record LeadsToNumber (chain : Chain) (states : List State) (state : State) (number : ℕ) : Type 0 where
  pub next : State
  pub numbered : slice_get states number ≡ Some next
  pub leads : LeadsTo chain state next

-- each step from a state draws once, and leads to the state of the first number where the draw is below the threshold
pub record LeadsToNumbers (chain : Chain) (states : List State) (state : State) (threshold low high : ℕ) : Type 0 where
  pub first : State
  pub second : State
  pub numbered_low : slice_get states low ≡ Some first
  pub numbered_high : slice_get states high ≡ Some second
  pub leads : LeadsByDraw chain state threshold first second

-- what a row says of a state is so
abbrev pub IsRow : Job → List State → State → Row → Type 0
IsRow job states state r.New = Unit
IsRow job states state r.Once = Unit
IsRow job states state (r.Open first second) = pair_of job state ≡ Ok (first, second)
IsRow job states state (r.Stays first second) = (pair_of job state ≡ Ok (first, second)) × (choices_of job.chain state ≡ Ok [])
IsRow job states state (r.One first second number) =
    (pair_of job state ≡ Ok (first, second)) × LeadsToNumber job.chain states state number
IsRow job states state (r.Drawn first second threshold low high) =
    (pair_of job state ≡ Ok (first, second)) × LeadsToNumbers job.chain states state threshold low high
