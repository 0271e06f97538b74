-- What is told of the fault of a test is the first fault of the settings.
use Rattle.std.proofs.Common.{◌≡◌, ◌∙◌, ◌||◌, Bool, true, false, refl, sym, ap, ap₂, subst, List, [], ◌∷◌, Option, Some, None, Result, Ok, Err, pos, cond, nat_lt, ◌^◌, ℕ, if◌then◌else◌}
use Rattle.std.specs.Prelude.{ℤ, option_map}
use Rattle.std.proofs.lemmas.Bool.{or_parts}
use Rattle.smc_num.specs.Fraction.{Fraction}
use Rattle.chain_model.specs.declared.job.Claim.{Claim}
use Rattle.sampling_plan.specs.declared.fault.PlanFault.{PlanFault}
use Rattle.sampling_plan.specs.declared.fault.PlanFault.TheVariants.{ThetaOutside, DeltaNotPositive, ErrorOutside, ErrorsTooLarge, Denominator, BadPlan}
use Rattle.wald_test.specs.SequentialTest.{SequentialTest}
use Rattle.wald_test.specs.Settings.{theta_outside, delta_not_positive, an_error_outside, errors_too_large, denominator_large, a_denominator_large, fault_of, probabilities_of, errors_of, joined, unless, test_of}
use Rattle.wald_test.proofs.FaultLemmas.{first_of}
use Rattle.run_goal.specs.declared.fault.SettingsFault.{SettingsFault}
use Rattle.run_goal.specs.declared.fault.SettingsFault.TheVariants as fault
use Rattle.run_goal.specs.Refusal.{first_large, wald_fault}
use Rattle.run_goal.specs.Goal.{tested}
use Rattle.run_goal.proofs.OppositeLemmas.{tested-den, tested_inside}
use Rattle.run_goal.proofs.RefusalLemmas.{or_later, large_of, unless-Err, unless-Ok}

-- one of these for each fault of a test
abbrev pub pick : PlanFault → SettingsFault → SettingsFault → SettingsFault → Option SettingsFault → Option SettingsFault
pick ThetaOutside wide outside sum last = None
pick DeltaNotPositive wide outside sum last = Some wide
pick ErrorOutside wide outside sum last = Some outside
pick ErrorsTooLarge wide outside sum last = Some sum
pick Denominator wide outside sum last = last
pick BadPlan wide outside sum last = None

picked :
    (b c d e : Bool) (f : PlanFault) (wide outside sum : SettingsFault) (last : Option SettingsFault) → first_of false b c d e ≡ Some f
    → or_later b wide (or_later c outside (or_later d sum last)) ≡ pick f wide outside sum last
picked true c d e f wide outside sum last is = let same : DeltaNotPositive ≡ f = cc in subst (λ f. Some wide ≡ pick f wide outside sum last) same refl
picked false true d e f wide outside sum last is = let same : ErrorOutside ≡ f = cc in subst (λ f. Some outside ≡ pick f wide outside sum last) same refl
picked false false true e f wide outside sum last is = let same : ErrorsTooLarge ≡ f = cc in subst (λ f. Some sum ≡ pick f wide outside sum last) same refl
picked false false false true f wide outside sum last is = let same : Denominator ≡ f = cc in subst (λ f. last ≡ pick f wide outside sum last) same refl
picked false false false false f wide outside sum last is = cc

none_picked :
    (b c d e : Bool) (wide outside sum : SettingsFault) (last : Option SettingsFault) → first_of false b c d e ≡ None → (e ≡ false → last ≡ None)
    → or_later b wide (or_later c outside (or_later d sum last)) ≡ None
none_picked true c d e wide outside sum last is small = cc
none_picked false true d e wide outside sum last is small = cc
none_picked false false true e wide outside sum last is small = cc
none_picked false false false true wide outside sum last is small = cc
none_picked false false false false wide outside sum last is small = small refl

no_plan : (a b c d e : Bool) → first_of a b c d e ≡ Some BadPlan → ⊥
no_plan true b c d e is = cc
no_plan false true c d e is = cc
no_plan false false true d e is = cc
no_plan false false false true e is = cc
no_plan false false false false true is = cc
no_plan false false false false false is = cc

last_test : (b c d e : Bool) → first_of false b c d e ≡ Some Denominator → e ≡ true
last_test true c d e is = cc
last_test false true d e is = cc
last_test false false true e is = cc
last_test false false false true is = refl
last_test false false false false is = cc

-- the five tests of the settings, with the probability inside
first_inside :
    (claim : Claim) (delta alpha beta : Fraction) (found : Option PlanFault) → theta_outside claim.theta ≡ false → fault_of (tested claim) delta alpha beta ≡ found
    → first_of false (delta_not_positive delta) (an_error_outside alpha beta) (errors_too_large alpha beta) (a_denominator_large (tested claim) delta alpha beta) ≡ found
unfolding fault_of
first_inside claim delta alpha beta found inside is =
    sym (ap (λ a. first_of a (delta_not_positive delta) (an_error_outside alpha beta) (errors_too_large alpha beta) (a_denominator_large (tested claim) delta alpha beta))
    (tested_inside claim inside)) ∙ is

-- 1 - theta has the denominator of theta
same_denominators : (claim : Claim) (delta alpha beta : Fraction) → a_denominator_large (tested claim) delta alpha beta ≡ a_denominator_large claim.theta delta alpha beta
same_denominators claim delta alpha beta =
    ap (λ (n : ℕ). nat_lt (2 ^ 31) n || (denominator_large delta || (denominator_large alpha || denominator_large beta))) (tested-den claim)

abbrev pub last_of : Claim → Fraction → Fraction → Fraction → Option SettingsFault
last_of claim delta alpha beta = option_map (λ (f : Fraction). fault.Denominator (pos f.den)) (large_of claim delta alpha beta)

-- a denominator that is found is told
pub large_told : (large : Option Fraction) (den : ℤ) → option_map (λ (f : Fraction). pos f.den) large ≡ Some den → option_map (λ (f : Fraction). fault.Denominator (pos f.den)) large ≡ Some (fault.Denominator den)
large_told None den is = cc
large_told (Some f) den is = let same : pos f.den ≡ den = cc in ap (λ d. Some (fault.Denominator d)) same

pub told_is :
    (claim : Claim) (delta alpha beta : Fraction) (f : PlanFault) → theta_outside claim.theta ≡ false → fault_of (tested claim) delta alpha beta ≡ Some f
    → wald_fault claim delta alpha beta ≡ pick f (fault.Delta delta) (fault.ErrorOutside alpha beta) (fault.ErrorSum alpha beta) (last_of claim delta alpha beta)
unfolding wald_fault
told_is claim delta alpha beta f inside is =
    ap (λ a. or_later a (fault.Theta claim.theta) (or_later (delta_not_positive delta) (fault.Delta delta) (or_later (an_error_outside alpha beta) (fault.ErrorOutside alpha beta)
    (or_later (errors_too_large alpha beta) (fault.ErrorSum alpha beta) (last_of claim delta alpha beta))))) inside
    ∙ picked _ _ _ _ f _ _ _ _ (first_inside claim delta alpha beta (Some f) inside is)

pub no_bad_plan : (claim : Claim) (delta alpha beta : Fraction) → fault_of (tested claim) delta alpha beta ≡ Some BadPlan → ⊥
unfolding fault_of
no_bad_plan claim delta alpha beta is = no_plan _ _ _ _ _ is

pub no_theta : (claim : Claim) (delta alpha beta : Fraction) → theta_outside claim.theta ≡ false → fault_of (tested claim) delta alpha beta ≡ Some ThetaOutside → ⊥
no_theta claim delta alpha beta inside is = no_first _ _ _ _ (first_inside claim delta alpha beta (Some ThetaOutside) inside is)
  where
    no_first : (b c d e : Bool) → first_of false b c d e ≡ Some ThetaOutside → ⊥
    no_first true c d e is = cc
    no_first false true d e is = cc
    no_first false false true e is = cc
    no_first false false false true is = cc
    no_first false false false false is = cc

pub has_large :
    (claim : Claim) (delta alpha beta : Fraction) → theta_outside claim.theta ≡ false → fault_of (tested claim) delta alpha beta ≡ Some Denominator
    → a_denominator_large claim.theta delta alpha beta ≡ true
has_large claim delta alpha beta inside is =
    sym (same_denominators claim delta alpha beta) ∙ last_test _ _ _ _ (first_inside claim delta alpha beta (Some Denominator) inside is)

-- where no denominator is large none is found
none_large : (claim : Claim) (delta alpha beta : Fraction) → a_denominator_large claim.theta delta alpha beta ≡ false → last_of claim delta alpha beta ≡ None
none_large claim delta alpha beta small =
    let one = or_parts (denominator_large claim.theta) (denominator_large delta || (denominator_large alpha || denominator_large beta)) small in
    let two = or_parts (denominator_large delta) (denominator_large alpha || denominator_large beta) one.1 in
    let three = or_parts (denominator_large alpha) (denominator_large beta) two.1 in
    rw (one.0, two.0, three.0, three.1) refl

pub none_told :
    (claim : Claim) (delta alpha beta : Fraction) → theta_outside claim.theta ≡ false → fault_of (tested claim) delta alpha beta ≡ None → wald_fault claim delta alpha beta ≡ None
unfolding wald_fault
none_told claim delta alpha beta inside is =
    ap (λ a. or_later a (fault.Theta claim.theta) (or_later (delta_not_positive delta) (fault.Delta delta) (or_later (an_error_outside alpha beta) (fault.ErrorOutside alpha beta)
    (or_later (errors_too_large alpha beta) (fault.ErrorSum alpha beta) (last_of claim delta alpha beta))))) inside
    ∙ none_picked _ _ _ _ _ _ _ _ (first_inside claim delta alpha beta None inside is)
    (λ small. none_large claim delta alpha beta (sym (same_denominators claim delta alpha beta) ∙ small))

-- ---- an answer that is the test of a probability

pub test_refused :
    (theta probability delta alpha beta : Fraction) (r : Result SequentialTest PlanFault) (f : PlanFault) → theta ≡ probability → r ≡ test_of theta delta alpha beta → r ≡ Err f
    → fault_of probability delta alpha beta ≡ Some f
unfolding test_of
test_refused theta probability delta alpha beta r f same value is =
    ap (λ t. fault_of t delta alpha beta) (sym same)
    ∙ (unless-Err (fault_of theta delta alpha beta) (joined (probabilities_of theta delta) (errors_of alpha beta)) f).0 (sym value ∙ is)

pub record IsTestOf (theta delta alpha beta : Fraction) (t : SequentialTest) : Type 0 where
  pub none : fault_of theta delta alpha beta ≡ None
  pub made : joined (probabilities_of theta delta) (errors_of alpha beta) ≡ t

pub test_made :
    (theta probability delta alpha beta : Fraction) (r : Result SequentialTest PlanFault) (t : SequentialTest) → theta ≡ probability → r ≡ test_of theta delta alpha beta → r ≡ Ok t
    → IsTestOf probability delta alpha beta t
unfolding test_of
test_made theta probability delta alpha beta r t same value is =
    let parts = unless-Ok (fault_of theta delta alpha beta) (joined (probabilities_of theta delta) (errors_of alpha beta)) t (sym value ∙ is) in
    subst (λ (p : Fraction). IsTestOf p delta alpha beta t) same (record { none = parts.0; made = parts.1 })
