-- When the choices that are kept for states are theirs.
use Rattle.std.specs.Prelude.{◌≡◌, ℕ, ◌+◌, ◌*◌, ◌<◌, ◌≤◌, List, Some, length, slice_get, take, drop}
use Rattle.chain_model.specs.declared.job.Job.{Job}
use Rattle.chain_model.specs.States.{State}
use Rattle.successors.specs.Choosing.{AreKnownChoices}
use Rattle.one_trace.specs.declared.kept.Span.{Span}
use Rattle.one_trace.specs.declared.kept.KeptChoices.{KeptChoices}

-- the commands at which a span points are those of the choices of the state of a number
pub record IsKept (job : Job) (states : List State) (commands : List ℕ) (number : ℕ) (span : Span) : Type 0 where
  pub state : State
  pub numbered : slice_get states number ≡ Some state
  pub within : span.from + span.count * span.size ≤ length commands
  pub choices : AreKnownChoices job.chain state span.count span.size (take (span.count * span.size) (drop span.from commands))

-- each span that tells choices points at those of its state
abbrev pub AreKept : Job → List State → KeptChoices → Type 0
AreKept job states kept = (number : ℕ) (span : Span) → slice_get kept.spans.items number ≡ Some span → 0 < span.count
    → IsKept job states kept.commands.items number span
