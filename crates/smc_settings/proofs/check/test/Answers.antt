-- A plan alone is the test.
use Rattle.smc_settings.proofs.TestLemmas.{plan_found, plan_missing}
use Rattle.smc_settings.proofs.check.test.Goals as goal

pub returns-in-Some-None-None-None-clause-found : goal.returns-in-Some-None-None-None-clause-found
returns-in-Some-None-None-None-clause-found c =
    let at = c.in-Some-None-None-None in
    rw (at.is-0, at.is-1, at.is-2, at.is-3) (plan_found at.text.now c.plan.result c.plan.ensures.value)

pub returns-in-Some-None-None-None-clause-none : goal.returns-in-Some-None-None-None-clause-none
returns-in-Some-None-None-None-clause-none c =
    let at = c.in-Some-None-None-None in
    rw (at.is-0, at.is-1, at.is-2, at.is-3) (plan_missing at.text.now c.plan.result c.plan.ensures.value)
