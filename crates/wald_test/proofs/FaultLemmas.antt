-- The faults of settings: what is known where there is none, and when each comes.
use Rattle.std.proofs.Common.{◌≡◌, Bool, true, false, cond, ◌||◌, ◌↔◌, refl, sym, ap, subst, Option, Some, None, Result, Ok, Err}
use Rattle.std.proofs.lemmas.Bool.{or_parts}
use Rattle.smc_num.specs.Fraction.{Fraction}
use Rattle.sampling_plan.specs.declared.fault.PlanFault.{PlanFault}
use Rattle.sampling_plan.specs.declared.fault.PlanFault.TheVariants.{ThetaOutside, DeltaNotPositive, ErrorOutside, ErrorsTooLarge, Denominator}
use Rattle.wald_test.specs.SequentialTest.{SequentialTest}
use Rattle.wald_test.specs.Settings.{theta_outside, delta_not_positive, error_outside, an_error_outside, errors_too_large, denominator_large, a_denominator_large, fault_of, probabilities_of, errors_of, joined, unless, test_of}

-- the first fault, from five tests
abbrev pub first_of : Bool → Bool → Bool → Bool → Bool → Option PlanFault
first_of a b c d e =
    cond a (Some ThetaOutside) (cond b (Some DeltaNotPositive) (cond c (Some ErrorOutside) (cond d (Some ErrorsTooLarge) (cond e (Some Denominator) None))))

-- none of the five tests found a fault
record AllPassed (a b c d e : Bool) : Type 0 where
  first : a ≡ false
  second : b ≡ false
  third : c ≡ false
  fourth : d ≡ false
  fifth : e ≡ false

all_passed : (a b c d e : Bool) → first_of a b c d e ≡ None → AllPassed a b c d e
all_passed true b c d e is = cc
all_passed false true c d e is = cc
all_passed false false true d e is = cc
all_passed false false false true e is = cc
all_passed false false false false true is = cc
all_passed false false false false false is = record { first = refl; second = refl; third = refl; fourth = refl; fifth = refl }

-- what is known of settings without a fault
pub record HasNoFault (theta delta alpha beta : Fraction) : Type 0 where
  pub theta_in : theta_outside theta ≡ false
  pub delta_in : delta_not_positive delta ≡ false
  pub alpha_in : error_outside alpha ≡ false
  pub beta_in : error_outside beta ≡ false
  pub sum_small : errors_too_large alpha beta ≡ false
  pub theta_small : denominator_large theta ≡ false
  pub delta_small : denominator_large delta ≡ false
  pub alpha_small : denominator_large alpha ≡ false
  pub beta_small : denominator_large beta ≡ false

pub no_fault : (theta delta alpha beta : Fraction) → fault_of theta delta alpha beta ≡ None → HasNoFault theta delta alpha beta
unfolding fault_of
no_fault theta delta alpha beta is =
    let passed : AllPassed (theta_outside theta) (delta_not_positive delta) (an_error_outside alpha beta) (errors_too_large alpha beta) (a_denominator_large theta delta alpha beta) =
    all_passed _ _ _ _ _ is in
    let between = or_parts (error_outside alpha) (error_outside beta) passed.third in
    let one = or_parts (denominator_large theta) (denominator_large delta || (denominator_large alpha || denominator_large beta)) passed.fifth in
    let two = or_parts (denominator_large delta) (denominator_large alpha || denominator_large beta) one.1 in
    let three = or_parts (denominator_large alpha) (denominator_large beta) two.1 in
    record {
      theta_in = passed.first;
      delta_in = passed.second;
      alpha_in = between.0;
      beta_in = between.1;
      sum_small = passed.fourth;
      theta_small = one.0;
      delta_small = two.0;
      alpha_small = three.0;
      beta_small = three.1;
    }

-- ---- the test of the settings

pub test_of-fault : (theta delta alpha beta : Fraction) (fault : PlanFault) → fault_of theta delta alpha beta ≡ Some fault → test_of theta delta alpha beta ≡ Err fault
unfolding test_of
test_of-fault theta delta alpha beta fault is =
    ap (λ (f : Option PlanFault). unless f (joined (probabilities_of theta delta) (errors_of alpha beta))) is

pub test_of-none : (theta delta alpha beta : Fraction) → fault_of theta delta alpha beta ≡ None → test_of theta delta alpha beta ≡ Ok (joined (probabilities_of theta delta) (errors_of alpha beta))
unfolding test_of
test_of-none theta delta alpha beta is =
    ap (λ (f : Option PlanFault). unless f (joined (probabilities_of theta delta) (errors_of alpha beta))) is

-- ---- each fault comes exactly where its test fails and none before it does

theta_when : (a b c d e : Bool) (t : SequentialTest) → (unless (first_of a b c d e) t ≡ Err ThetaOutside) ↔ (a ≡ true)
theta_when true b c d e t = (λ h. refl, λ h. refl)
theta_when false true c d e t = (λ h. cc, λ h. cc)
theta_when false false true d e t = (λ h. cc, λ h. cc)
theta_when false false false true e t = (λ h. cc, λ h. cc)
theta_when false false false false true t = (λ h. cc, λ h. cc)
theta_when false false false false false t = (λ h. cc, λ h. cc)

delta_when : (a b c d e : Bool) (t : SequentialTest) → (unless (first_of a b c d e) t ≡ Err DeltaNotPositive) ↔ ((a ≡ true → ⊥) × (b ≡ true))
delta_when true b c d e t = (λ h. cc, λ h. absurd (h.0 refl))
delta_when false true c d e t = (λ h. ((λ n. cc), refl), λ h. refl)
delta_when false false true d e t = (λ h. cc, λ h. let n : false ≡ true = h.1 in cc)
delta_when false false false true e t = (λ h. cc, λ h. let n : false ≡ true = h.1 in cc)
delta_when false false false false true t = (λ h. cc, λ h. let n : false ≡ true = h.1 in cc)
delta_when false false false false false t = (λ h. cc, λ h. let n : false ≡ true = h.1 in cc)

error_when : (a b c d e : Bool) (t : SequentialTest) → (unless (first_of a b c d e) t ≡ Err ErrorOutside) ↔ ((a ≡ true → ⊥) × (b ≡ true → ⊥) × (c ≡ true))
error_when true b c d e t = (λ h. cc, λ h. absurd (h.0 refl))
error_when false true c d e t = (λ h. cc, λ h. absurd (h.1 refl))
error_when false false true d e t = (λ h. ((λ n. cc), (λ n. cc), refl), λ h. refl)
error_when false false false true e t = (λ h. cc, λ h. let n : false ≡ true = h.2 in cc)
error_when false false false false true t = (λ h. cc, λ h. let n : false ≡ true = h.2 in cc)
error_when false false false false false t = (λ h. cc, λ h. let n : false ≡ true = h.2 in cc)

sum_when : (a b c d e : Bool) (t : SequentialTest) → (unless (first_of a b c d e) t ≡ Err ErrorsTooLarge) ↔ ((a ≡ true → ⊥) × (b ≡ true → ⊥) × (c ≡ true → ⊥) × (d ≡ true))
sum_when true b c d e t = (λ h. cc, λ h. absurd (h.0 refl))
sum_when false true c d e t = (λ h. cc, λ h. absurd (h.1 refl))
sum_when false false true d e t = (λ h. cc, λ h. absurd (h.2 refl))
sum_when false false false true e t = (λ h. ((λ n. cc), (λ n. cc), (λ n. cc), refl), λ h. refl)
sum_when false false false false true t = (λ h. cc, λ h. let n : false ≡ true = h.3 in cc)
sum_when false false false false false t = (λ h. cc, λ h. let n : false ≡ true = h.3 in cc)

denominator_when : (a b c d e : Bool) (t : SequentialTest) → (unless (first_of a b c d e) t ≡ Err Denominator) ↔ ((a ≡ true → ⊥) × (b ≡ true → ⊥) × (c ≡ true → ⊥) × (d ≡ true → ⊥) × (e ≡ true))
denominator_when true b c d e t = (λ h. cc, λ h. absurd (h.0 refl))
denominator_when false true c d e t = (λ h. cc, λ h. absurd (h.1 refl))
denominator_when false false true d e t = (λ h. cc, λ h. absurd (h.2 refl))
denominator_when false false false true e t = (λ h. cc, λ h. absurd (h.3 refl))
denominator_when false false false false true t = (λ h. ((λ n. cc), (λ n. cc), (λ n. cc), (λ n. cc), refl), λ h. refl)
denominator_when false false false false false t = (λ h. cc, λ h. let n : false ≡ true = h.4 in cc)

-- the same of the test of settings
pub test_of-theta : (theta delta alpha beta : Fraction) → (test_of theta delta alpha beta ≡ Err ThetaOutside) ↔ (theta_outside theta ≡ true)
unfolding test_of fault_of
test_of-theta theta delta alpha beta = theta_when _ _ _ _ _ _

pub test_of-delta : (theta delta alpha beta : Fraction) → (test_of theta delta alpha beta ≡ Err DeltaNotPositive) ↔ ((theta_outside theta ≡ true → ⊥) × (delta_not_positive delta ≡ true))
unfolding test_of fault_of
test_of-delta theta delta alpha beta = delta_when _ _ _ _ _ _

pub test_of-error : (theta delta alpha beta : Fraction) → (test_of theta delta alpha beta ≡ Err ErrorOutside) ↔ ((theta_outside theta ≡ true → ⊥) × (delta_not_positive delta ≡ true → ⊥) × (an_error_outside alpha beta ≡ true))
unfolding test_of fault_of
test_of-error theta delta alpha beta = error_when _ _ _ _ _ _

pub test_of-sum : (theta delta alpha beta : Fraction) → (test_of theta delta alpha beta ≡ Err ErrorsTooLarge)
    ↔ ((theta_outside theta ≡ true → ⊥) × (delta_not_positive delta ≡ true → ⊥) × (an_error_outside alpha beta ≡ true → ⊥) × (errors_too_large alpha beta ≡ true))
unfolding test_of fault_of
test_of-sum theta delta alpha beta = sum_when _ _ _ _ _ _

pub test_of-denominator : (theta delta alpha beta : Fraction) → (test_of theta delta alpha beta ≡ Err Denominator)
    ↔ ((theta_outside theta ≡ true → ⊥) × (delta_not_positive delta ≡ true → ⊥) × (an_error_outside alpha beta ≡ true → ⊥) × (errors_too_large alpha beta ≡ true → ⊥)
    × (a_denominator_large theta delta alpha beta ≡ true))
unfolding test_of fault_of
test_of-denominator theta delta alpha beta = denominator_when _ _ _ _ _ _

-- ---- the same of an answer that is the test of the settings

pub exactly_theta :
    (theta delta alpha beta : Fraction) (r : Result SequentialTest PlanFault) → r ≡ test_of theta delta alpha beta →
    (r ≡ Err ThetaOutside) ↔ (theta_outside theta ≡ true)
exactly_theta theta delta alpha beta r is =
    subst (λ (r : Result SequentialTest PlanFault). (r ≡ Err ThetaOutside) ↔ (theta_outside theta ≡ true)) (sym is)
    (test_of-theta theta delta alpha beta)

pub exactly_delta :
    (theta delta alpha beta : Fraction) (r : Result SequentialTest PlanFault) → r ≡ test_of theta delta alpha beta →
    (r ≡ Err DeltaNotPositive) ↔ ((theta_outside theta ≡ true → ⊥) × (delta_not_positive delta ≡ true))
exactly_delta theta delta alpha beta r is =
    subst (λ (r : Result SequentialTest PlanFault). (r ≡ Err DeltaNotPositive) ↔ ((theta_outside theta ≡ true → ⊥) × (delta_not_positive delta ≡ true))) (sym is)
    (test_of-delta theta delta alpha beta)

pub exactly_error :
    (theta delta alpha beta : Fraction) (r : Result SequentialTest PlanFault) → r ≡ test_of theta delta alpha beta →
    (r ≡ Err ErrorOutside) ↔ ((theta_outside theta ≡ true → ⊥) × (delta_not_positive delta ≡ true → ⊥) × (an_error_outside alpha beta ≡ true))
exactly_error theta delta alpha beta r is =
    subst (λ (r : Result SequentialTest PlanFault). (r ≡ Err ErrorOutside)
    ↔ ((theta_outside theta ≡ true → ⊥) × (delta_not_positive delta ≡ true → ⊥) × (an_error_outside alpha beta ≡ true))) (sym is)
    (test_of-error theta delta alpha beta)

pub exactly_sum :
    (theta delta alpha beta : Fraction) (r : Result SequentialTest PlanFault) → r ≡ test_of theta delta alpha beta →
    (r ≡ Err ErrorsTooLarge)
    ↔ ((theta_outside theta ≡ true → ⊥) × (delta_not_positive delta ≡ true → ⊥) × (an_error_outside alpha beta ≡ true → ⊥) × (errors_too_large alpha beta ≡ true))
exactly_sum theta delta alpha beta r is =
    subst (λ (r : Result SequentialTest PlanFault). (r ≡ Err ErrorsTooLarge)
    ↔ ((theta_outside theta ≡ true → ⊥) × (delta_not_positive delta ≡ true → ⊥) × (an_error_outside alpha beta ≡ true → ⊥) × (errors_too_large alpha beta ≡ true))) (sym is)
    (test_of-sum theta delta alpha beta)

pub exactly_denominator :
    (theta delta alpha beta : Fraction) (r : Result SequentialTest PlanFault) → r ≡ test_of theta delta alpha beta →
    (r ≡ Err Denominator)
    ↔ ((theta_outside theta ≡ true → ⊥) × (delta_not_positive delta ≡ true → ⊥) × (an_error_outside alpha beta ≡ true → ⊥) × (errors_too_large alpha beta ≡ true → ⊥)
    × (a_denominator_large theta delta alpha beta ≡ true))
exactly_denominator theta delta alpha beta r is =
    subst (λ (r : Result SequentialTest PlanFault). (r ≡ Err Denominator)
    ↔ ((theta_outside theta ≡ true → ⊥) × (delta_not_positive delta ≡ true → ⊥) × (an_error_outside alpha beta ≡ true → ⊥) × (errors_too_large alpha beta ≡ true → ⊥)
    × (a_denominator_large theta delta alpha beta ≡ true))) (sym is)
    (test_of-denominator theta delta alpha beta)
