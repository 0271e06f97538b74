-- The fault that is told of a run.
use Rattle.std.proofs.Common.{◌≡◌, ◌+◌, ℕ, Option, Some, None, sym, subst, ap}
use Rattle.std.specs.Prelude.{unwrap_or}
use Rattle.chain_model.specs.declared.job.Job.{Job}
use Rattle.chain_model.specs.declared.outcome.TraceFault.{TraceFault}
use Rattle.chain_model.specs.declared.outcome.Outcome.TheVariants as outcome
use Rattle.chain_model.specs.Outcome.{IsOutcome}
use Rattle.stop_rules.specs.declared.end.Cause.TheVariants as cause
use Rattle.stop_rules.specs.declared.end.End.{End}
use Rattle.sampling_run.specs.Drawn.{IsFaultOf}

-- what is told of a run that ended by a fault is its step and its fault, whatever is told where it ended otherwise
pub told_fault : (job : Job) (end : End) (found : Option (ℕ × TraceFault)) (other told : ℕ × TraceFault) → IsFaultOf job end found → told ≡ unwrap_or found other
    → end.cause ≡ cause.Fault → IsOutcome job (end.d + end.f) (outcome.Fault told.0 told.1)
told_fault job end (Some (step, fault)) other told is same by_fault =
    subst (λ (v : ℕ × TraceFault). IsOutcome job (end.d + end.f) (outcome.Fault v.0 v.1)) (sym same) is.1
told_fault job end None other told is same by_fault = absurd (is by_fault)
