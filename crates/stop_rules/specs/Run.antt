-- The end of a run: its traces are taken one by one, in numeric order, up to the first that ends it.
use Rattle.std.specs.Prelude.{◌≡◌, ℕ, ◌+◌, ◌<◌, ◌≤◌, Bool, List, Option, Some, None, length, slice_get, take, map}
use Rattle.chain_model.specs.declared.job.Job.{Job}
use Rattle.chain_model.specs.declared.outcome.Outcome.{Outcome}
use Rattle.chain_model.specs.Outcome.{IsOutcome}
use Rattle.stop_rules.specs.declared.end.End.{End}
use Rattle.stop_rules.specs.declared.goal.Goal.{Goal}
use Rattle.stop_rules.specs.Decision.{Counts, cause_at, counts_after, end_with}
use Rattle.stop_rules.specs.Seen.{SeenAt, AreSeen}

-- nothing ends a run from these counts after one of these traces, or after more of them
abbrev pub GoesOn : Goal → Counts → List Bool → Type 0
GoesOn goal counts truths = (m : ℕ) → 0 < m → m ≤ length truths → cause_at goal (counts_after counts (take m truths)) ≡ None

-- a run from these counts ends, where `seen_at k one` says what is seen of the k-th trace from there: whether it
-- succeeded, or nothing where it faults
pub record EndsOn (seen_at : ℕ → Option Bool → Type 0) (goal : Goal) (counts : Counts) (end : End) : Type 0 where
  -- the traces before the last one
  pub before : List Bool
  pub seen : (k : ℕ) (truth : Bool) → slice_get before k ≡ Some truth → seen_at k (Some truth)
  pub goes_on : GoesOn goal counts before
  -- the last one
  pub last : Option Bool
  pub last_seen : seen_at (length before) last
  pub ends : end_with goal (counts_after counts before) last ≡ Some end

-- the run from d successes and f failures over these outcomes ends; its next trace has the number d + f
abbrev pub EndsFrom : (ℕ → Outcome → Type 0) → Goal → ℕ → ℕ → End → Type 0
EndsFrom outcome_at goal d f end =
    EndsOn (λ k one. SeenAt outcome_at goal.flip (d + f + k) one) goal (record { d = d; f = f }) end

-- the run of a job ends
abbrev pub EndsRun : Job → Goal → End → Type 0
EndsRun job goal end = EndsFrom (IsOutcome job) goal 0 0 end

-- a run ends among the traces of which this is seen
abbrev pub EndsAmong : Goal → Counts → List (Option Bool) → End → Type 0
EndsAmong goal counts seen end = EndsOn (λ k one. slice_get seen k ≡ Some one) goal counts end

-- a run goes past these traces, to the counts after them
pub record GoesPast (goal : Goal) (counts : Counts) (truths : List Bool) (after : Counts) : Type 0 where
  pub goes_on : GoesOn goal counts truths
  pub counted : after ≡ counts_after counts truths

-- the run from d successes and f failures over these outcomes reaches these counts without an end
pub record Reaches (outcome_at : ℕ → Outcome → Type 0) (goal : Goal) (d f : ℕ) (after : Counts) : Type 0 where
  pub truths : List Bool
  pub seen : AreSeen outcome_at goal.flip (d + f) (map (λ truth. Some truth) truths)
  pub past : GoesPast goal (record { d = d; f = f }) truths after
