-- What drawing the traces of a job gives: the end of the run, the fault that ended it, and what the observers say.
use Rattle.std.specs.Prelude.{◌≡◌, ◌≢◌, ℕ, ◌+◌, List, Bool, Option, Some, None, length, map}
use Rattle.chain_model.specs.declared.job.Job.{Job}
use Rattle.chain_model.specs.declared.outcome.TraceFault.{TraceFault}
use Rattle.chain_model.specs.declared.outcome.Outcome.TheVariants as outcome
use Rattle.chain_model.specs.Outcome.{IsOutcome}
use Rattle.stop_rules.specs.declared.end.Cause.TheVariants.{Fault}
use Rattle.stop_rules.specs.declared.end.End.{End}
use Rattle.stop_rules.specs.declared.goal.Goal.{Goal}
use Rattle.stop_rules.specs.Observers.{Observation}
use Rattle.stop_rules.specs.Seats.{watching, seat_after_all, line_at}
use Rattle.stop_rules.specs.Seen.{AreSeen}

-- the observers that had seen this before a run say this after it: each has seen whether the admitted traces succeed,
-- in numeric order, until it left
pub record AreLines (job : Job) (goal : Goal) (watched : List Observation) (end : End)
    (told : List (List ℕ)) : Type 0 where
  -- whether each of the admitted traces succeeds
  pub truths : List Bool
  pub seen : AreSeen (IsOutcome job) goal.flip 0 (map (λ truth. Some truth) truths)
  pub all : length truths ≡ end.d + end.f
  pub lines : told ≡ map (λ before. line_at (seat_after_all truths (watching before))) watched

-- the step and the fault of the trace that ended a run by a fault; where it ended otherwise there is none
abbrev pub IsFaultOf : Job → End → Option (ℕ × TraceFault) → Type 0
IsFaultOf job end (Some (step, fault)) = (end.cause ≡ Fault) × IsOutcome job (end.d + end.f) (outcome.Fault step fault)
IsFaultOf job end None = end.cause ≢ Fault
