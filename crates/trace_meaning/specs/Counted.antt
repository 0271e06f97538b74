-- The choices of a state, of which there may not be too many: how many they are, and the first of them.
use Rattle.std.specs.Prelude.{ℕ, nat_lt, List, length, take, Result, Ok, Err, flat_map}
use Rattle.chain_model.specs.declared.outcome.TraceFault.{TraceFault}
use Rattle.chain_model.specs.declared.outcome.TraceFault.TheVariants.{Choices}
use Rattle.chain_model.specs.declared.chain.Chain.{Chain}
use Rattle.chain_model.specs.declared.steps.Choice.{Choice}
use Rattle.chain_model.specs.Limits.{most_choices}
use Rattle.chain_model.specs.Results.{◌>>=◌, ◌>>◌, refuse_if}
use Rattle.chain_model.specs.States.{State}
use Rattle.chain_model.specs.Choices.{choices_of}
use Rattle.trace_meaning.specs.declared.fault.StepFault.{StepFault}
use Rattle.trace_meaning.specs.declared.groups.Group.{Group}
use Rattle.trace_meaning.specs.Groups.{group_choices}

-- the choices of a state, where they are not too many
abbrev pub limited_choices : Chain → State → Result (List Choice) TraceFault
limited_choices chain state = do
  choices ← choices_of chain state
  refuse_if (nat_lt most_choices (length choices)) Choices
  Ok choices

-- the number of a state's choices, of which there may not be too many, and so many of the first
abbrev pub counted_choices : Chain → State → ℕ → Result (ℕ × List Choice) TraceFault
counted_choices chain state most = limited_choices chain state >>= λ choices. Ok (length choices, take most choices)

-- the choices that groups stand for
abbrev pub choices_in : Result (ℕ × List Group) StepFault → Result (List Choice) StepFault
choices_in (Ok counted) = Ok (flat_map group_choices counted.1)
choices_in (Err fault) = Err fault
