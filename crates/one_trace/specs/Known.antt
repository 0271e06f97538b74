-- When what is known of states is so.
use Rattle.std.specs.Prelude.{◌≡◌, ℕ, Some, length, slice_get}
use Rattle.chain_model.specs.declared.job.Job.{Job}
use Rattle.chain_model.specs.States.{State, IsState}
use Rattle.one_trace.specs.declared.rows.Row.{Row}
use Rattle.one_trace.specs.declared.known.Known.{Known}
use Rattle.one_trace.specs.Rows.{IsRow}

-- the states that were met are states of the job's chain, and the row of each says what is so of it
pub record IsKnown (job : Job) (known : Known) : Type 0 where
  pub width : known.table.width ≡ length job.chain.vars
  pub states : (number : ℕ) (state : State) → slice_get known.table.states number ≡ Some state → IsState job.chain state
  pub rows : (number : ℕ) (state : State) (row : Row) → slice_get known.table.states number ≡ Some state
      → slice_get known.rows.items number ≡ Some row → IsRow job known.table.states state row
