-- When a plan leaves the hypothesis open.
use Rattle.std.proofs.Common.{ℕ, ◌+◌, ◌-◌, ◌<◌, ◌≤◌, arith}
use Rattle.sampling_plan.specs.SinglePlan.{SinglePlan}
use Rattle.sampling_plan.specs.Decision.{CannotAccept}

-- with fewer failures than that, all that is left of the sample could still succeed
pub few_failures_leave_room :
    (plan : SinglePlan) (failures : ℕ) → failures < plan.samples - plan.acceptance_number →
    CannotAccept plan failures → ⊥
few_failures_leave_room plan failures few cannot =
    let rest : ℕ = plan.samples - failures in
    let fits : failures + rest ≤ plan.samples = omega arith in
    let passed : rest ≤ plan.acceptance_number = cannot rest fits in
    omega arith
