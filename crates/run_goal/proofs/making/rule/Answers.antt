-- The rule of a plan doesn't depend on the claim.
use Rattle.run_goal.proofs.making.rule.Goals as goal

pub returns-in-Plan : goal.returns-in-Plan
returns-in-Plan c = rw c.in-Plan.is (c.plan_rule.ensures c.args.claim.now)
