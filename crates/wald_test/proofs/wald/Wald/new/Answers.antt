use Rattle.std.proofs.Common.{◌≡◌, sym, ◌∙◌, ap, ap₂, Option, None, Ok}
use Rattle.smc_num.specs.Fraction.{Fraction}
use Rattle.sampling_plan.specs.declared.fault.PlanFault.{PlanFault}
use Rattle.wald_test.specs.SequentialTest.{SequentialTest}
use Rattle.wald_test.specs.Settings.{joined, fault_of}
use Rattle.wald_test.proofs.FaultLemmas.{HasNoFault, no_fault, test_of-fault, test_of-none, exactly_theta, exactly_delta, exactly_error, exactly_sum, exactly_denominator}
use Rattle.wald_test.proofs.wald.Wald.new.Goals as goal

-- where the code found no fault there is none
passed :
    (theta delta alpha beta : Fraction) (found : Option PlanFault) → found ≡ fault_of theta delta alpha beta → found ≡ None →
    HasNoFault theta delta alpha beta
passed theta delta alpha beta found value none = no_fault theta delta alpha beta (sym value ∙ none)

pub probabilities-requires-clause-theta : goal.probabilities-requires-clause-theta
probabilities-requires-clause-theta c =
    (passed c.args.theta c.args.delta c.args.alpha c.args.beta c.first_fault.result c.first_fault.ensures.value c.in_default.is).theta_in

pub probabilities-requires-clause-theta_small : goal.probabilities-requires-clause-theta_small
probabilities-requires-clause-theta_small c =
    (passed c.args.theta c.args.delta c.args.alpha c.args.beta c.first_fault.result c.first_fault.ensures.value c.in_default.is).theta_small

pub probabilities-requires-clause-delta : goal.probabilities-requires-clause-delta
probabilities-requires-clause-delta c =
    (passed c.args.theta c.args.delta c.args.alpha c.args.beta c.first_fault.result c.first_fault.ensures.value c.in_default.is).delta_in

pub probabilities-requires-clause-delta_small : goal.probabilities-requires-clause-delta_small
probabilities-requires-clause-delta_small c =
    (passed c.args.theta c.args.delta c.args.alpha c.args.beta c.first_fault.result c.first_fault.ensures.value c.in_default.is).delta_small

pub errors-requires-clause-alpha : goal.errors-requires-clause-alpha
errors-requires-clause-alpha c =
    (passed c.args.theta c.args.delta c.args.alpha c.args.beta c.first_fault.result c.first_fault.ensures.value c.in_default.is).alpha_in

pub errors-requires-clause-alpha_small : goal.errors-requires-clause-alpha_small
errors-requires-clause-alpha_small c =
    (passed c.args.theta c.args.delta c.args.alpha c.args.beta c.first_fault.result c.first_fault.ensures.value c.in_default.is).alpha_small

pub errors-requires-clause-beta : goal.errors-requires-clause-beta
errors-requires-clause-beta c =
    (passed c.args.theta c.args.delta c.args.alpha c.args.beta c.first_fault.result c.first_fault.ensures.value c.in_default.is).beta_in

pub errors-requires-clause-beta_small : goal.errors-requires-clause-beta_small
errors-requires-clause-beta_small c =
    (passed c.args.theta c.args.delta c.args.alpha c.args.beta c.first_fault.result c.first_fault.ensures.value c.in_default.is).beta_small

pub errors-requires-clause-sum : goal.errors-requires-clause-sum
errors-requires-clause-sum c =
    (passed c.args.theta c.args.delta c.args.alpha c.args.beta c.first_fault.result c.first_fault.ensures.value c.in_default.is).sum_small

-- ---- a fault

pub returns-in-Some-clause-value : goal.returns-in-Some-clause-value
returns-in-Some-clause-value c =
    sym (test_of-fault c.args.theta c.args.delta c.args.alpha c.args.beta c.in-Some.fault (sym c.first_fault.ensures.value ∙ c.in-Some.is))

pub returns-in-Some-clause-theta : goal.returns-in-Some-clause-theta
returns-in-Some-clause-theta c = exactly_theta _ _ _ _ _ (returns-in-Some-clause-value c)

pub returns-in-Some-clause-delta : goal.returns-in-Some-clause-delta
returns-in-Some-clause-delta c = exactly_delta _ _ _ _ _ (returns-in-Some-clause-value c)

pub returns-in-Some-clause-errors : goal.returns-in-Some-clause-errors
returns-in-Some-clause-errors c = exactly_error _ _ _ _ _ (returns-in-Some-clause-value c)

pub returns-in-Some-clause-sum : goal.returns-in-Some-clause-sum
returns-in-Some-clause-sum c = exactly_sum _ _ _ _ _ (returns-in-Some-clause-value c)

pub returns-in-Some-clause-denominator : goal.returns-in-Some-clause-denominator
returns-in-Some-clause-denominator c = exactly_denominator _ _ _ _ _ (returns-in-Some-clause-value c)

-- ---- a test

pub returns-clause-value : goal.returns-clause-value
returns-clause-value c =
    let made = c.of.ensures ∙ ap₂ joined c.probabilities.ensures.value c.errors.ensures.value in
    ap (λ (t : SequentialTest). Ok t) made
    ∙ sym (test_of-none c.args.theta c.args.delta c.args.alpha c.args.beta (sym c.first_fault.ensures.value ∙ c.in_default.is))

pub returns-clause-theta : goal.returns-clause-theta
returns-clause-theta c = exactly_theta _ _ _ _ _ (returns-clause-value c)

pub returns-clause-delta : goal.returns-clause-delta
returns-clause-delta c = exactly_delta _ _ _ _ _ (returns-clause-value c)

pub returns-clause-errors : goal.returns-clause-errors
returns-clause-errors c = exactly_error _ _ _ _ _ (returns-clause-value c)

pub returns-clause-sum : goal.returns-clause-sum
returns-clause-sum c = exactly_sum _ _ _ _ _ (returns-clause-value c)

pub returns-clause-denominator : goal.returns-clause-denominator
returns-clause-denominator c = exactly_denominator _ _ _ _ _ (returns-clause-value c)
