use Rattle.std.proofs.Common.{◌≡◌, ℕ, zero, suc, Ok, refl, ap}
use Rattle.trace_streams.specs.Draws.{draw_at}
use Rattle.chain_model.specs.declared.job.Job.{Job}
use Rattle.chain_model.specs.Results.{◌>>=◌}
use Rattle.chain_model.specs.Step.{step_of}
use Rattle.chain_model.specs.Trace.{configuration_at}
use Rattle.trace_report.specs.States.{configuration_after}
use Rattle.trace_report.proofs.laws.states_are_those_of_a_job.Goals as goal

-- both begin in the initial state and go on by the same steps
same : (job : Job) (trace k : ℕ)
    → configuration_after job.chain (draw_at job.seed trace) k ≡ configuration_at job trace k
unfolding configuration_after configuration_at
same job trace zero = refl
same job trace (suc k) =
    ap (λ before. before >>= λ from. step_of job.chain (draw_at job.seed trace) from >>= λ step. Ok step.0)
    (same job trace k)

pub returns : goal.returns
returns c = same
