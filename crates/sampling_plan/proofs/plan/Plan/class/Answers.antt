use Rattle.std.proofs.Common.{◌≡◌, ◌<◌, ap, refl, arith}
use Rattle.sampling_plan.specs.SinglePlan.{SinglePlan}
use Rattle.sampling_plan.specs.Decision.{CannotAccept}
use Rattle.sampling_plan.proofs.DecisionLemmas.{few_failures_leave_room}
use Rattle.sampling_plan.proofs.plan.Plan.class.Goals as goal

-- the rest of the sample could still bring the successes past the acceptance number
open_still : (c : goal.Else-failures-self) → CannotAccept c.args.self.now c.args.failures → ⊥
open_still c =
    let sample : c.self.inside.samples ≡ c.args.self.now.samples = ap (λ (p : SinglePlan). p.samples) c.self.view_is in
    let number : c.self.inside.acceptance_number ≡ c.args.self.now.acceptance_number =
    ap (λ (p : SinglePlan). p.acceptance_number) c.self.view_is in
    few_failures_leave_room c.args.self.now c.args.failures (omega (arith, c.if-failures-self.false))

-- not enough have succeeded
short : (c : goal.Else-failures-self) → c.args.self.now.acceptance_number < c.args.successes → ⊥
short c enough =
    let number : c.self.inside.acceptance_number ≡ c.args.self.now.acceptance_number =
    ap (λ (p : SinglePlan). p.acceptance_number) c.self.view_is in
    omega (arith, c.if-successes-self.false)

pub returns-else-failures-self-clause-reject : goal.returns-else-failures-self-clause-reject
returns-else-failures-self-clause-reject c = (λ other. cc, λ rejected. absurd (open_still c rejected.1))

pub returns-else-failures-self-clause-go : goal.returns-else-failures-self-clause-go
returns-else-failures-self-clause-go c = (λ same. (short c, open_still c), λ neither. refl)
