-- What the counts of successes and failures decide under a single sampling plan (Wald, Sequential Analysis, 1947).
use Rattle.std.specs.Prelude.{ℕ, ◌+◌, ◌-◌, ◌<◌, ◌≤◌, nat_lt, nat_le, if◌then◌else◌}
use Rattle.sampling_plan.specs.SinglePlan.{SinglePlan}
use Rattle.sampling_plan.specs.declared.class.Class.{Class}
use Rattle.sampling_plan.specs.declared.class.Class.TheVariants.{Accept, Reject, Go}

-- more have succeeded than the acceptance number
abbrev pub Accepts : SinglePlan → ℕ → Type 0
Accepts plan successes = plan.acceptance_number < successes

-- so many have failed that the rest of the sample cannot bring the successes past the acceptance number
abbrev pub CannotAccept : SinglePlan → ℕ → Type 0
CannotAccept plan failures = (more : ℕ) → failures + more ≤ plan.samples → more ≤ plan.acceptance_number

-- the class of the counts: accepted once enough have succeeded, otherwise rejected once too many have failed
abbrev pub class_of : SinglePlan → ℕ → ℕ → Class
class_of plan successes failures =
    if nat_lt plan.acceptance_number successes then Accept
    else (if nat_le (plan.samples - plan.acceptance_number) failures then Reject else Go)
