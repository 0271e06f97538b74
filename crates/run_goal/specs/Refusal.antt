-- Why a claim and the settings of a test make no goal: the first fault that they have, with what is told of it.
use Rattle.std.specs.Prelude.{◌≡◌, ◌≤◌, ℕ, true, false, List, [], ◌∷◌, Option, Some, None, pos, find, option_map, nat_le, if◌then◌else◌}
use Rattle.smc_num.specs.Fraction.{Fraction}
use Rattle.chain_model.specs.declared.job.Claim.{Claim}
use Rattle.wald_test.specs.Settings.{theta_outside, delta_not_positive, an_error_outside, errors_too_large, denominator_large}
use Rattle.smc_settings.specs.declared.commands.TestWords.{TestWords}
use Rattle.smc_settings.specs.declared.commands.TestWords.TheVariants as test
use Rattle.run_goal.specs.declared.fault.SettingsFault.{SettingsFault}
use Rattle.run_goal.specs.declared.fault.SettingsFault.TheVariants as fault

-- the first of these fractions whose denominator is above 2^31
abbrev pub first_large : List Fraction → Option Fraction
first_large fractions = find denominator_large fractions

-- the first fault of the settings of Wald's test: the probability is looked at as the property gives it
unfoldable pub wald_fault : Claim → Fraction → Fraction → Fraction → Option SettingsFault
wald_fault claim delta alpha beta =
    if theta_outside claim.theta then Some (fault.Theta claim.theta)
    else (if delta_not_positive delta then Some (fault.Delta delta)
    else (if an_error_outside alpha beta then Some (fault.ErrorOutside alpha beta)
    else (if errors_too_large alpha beta then Some (fault.ErrorSum alpha beta)
    else option_map (λ f. fault.Denominator (pos f.den)) (first_large (claim.theta ∷ delta ∷ alpha ∷ beta ∷ [])))))

-- the first fault of the settings; that of a plan is that its acceptance number is not below its sample size
abbrev pub refusal_of_settings : Claim → TestWords → Option SettingsFault
refusal_of_settings claim (test.Plan n c) = if nat_le n c then Some (fault.Plan n c) else None
refusal_of_settings claim (test.Wald delta alpha beta) = wald_fault claim delta alpha beta

-- none of the faults before the errors holds
pub record ArePlaced (claim : Claim) (delta : Fraction) : Type 0 where
  pub inside : theta_outside claim.theta ≡ false
  pub wide : delta_not_positive delta ≡ false

-- none of the faults before the denominators holds
pub record AreBounded (claim : Claim) (delta alpha beta : Fraction) : Type 0 where
  pub placed : ArePlaced claim delta
  pub errors : an_error_outside alpha beta ≡ false
  pub sum : errors_too_large alpha beta ≡ false

-- the settings have this fault, and none before it
pub data IsRefused (claim : Claim) : TestWords → SettingsFault → Type 0 where
  of_plan : (n c : ℕ) → n ≤ c → IsRefused claim (test.Plan n c) (fault.Plan n c)
  of_theta : (delta alpha beta : Fraction) → theta_outside claim.theta ≡ true
      → IsRefused claim (test.Wald delta alpha beta) (fault.Theta claim.theta)
  of_delta : (delta alpha beta : Fraction) → theta_outside claim.theta ≡ false → delta_not_positive delta ≡ true
      → IsRefused claim (test.Wald delta alpha beta) (fault.Delta delta)
  of_errors : (delta alpha beta : Fraction) → ArePlaced claim delta → an_error_outside alpha beta ≡ true
      → IsRefused claim (test.Wald delta alpha beta) (fault.ErrorOutside alpha beta)
  of_sum : (delta alpha beta : Fraction) → ArePlaced claim delta → an_error_outside alpha beta ≡ false
      → errors_too_large alpha beta ≡ true → IsRefused claim (test.Wald delta alpha beta) (fault.ErrorSum alpha beta)
  of_denominator : (delta alpha beta large : Fraction) → AreBounded claim delta alpha beta
      → first_large (claim.theta ∷ delta ∷ alpha ∷ beta ∷ []) ≡ Some large
      → IsRefused claim (test.Wald delta alpha beta) (fault.Denominator (pos large.den))
