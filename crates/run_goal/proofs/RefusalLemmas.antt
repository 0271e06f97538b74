-- The first fault of the settings is the one that holds and that none before it does.
use Rattle.std.proofs.Common.{◌≡◌, ◌∙◌, ◌≤◌, ◌↔◌, ℕ, Bool, true, false, refl, sym, ap, subst, arith, rules, List, [], ◌∷◌, Option, Some, None, Result, Ok, Err, pos, if◌then◌else◌}
use Rattle.std.specs.Prelude.{nat_le, option_map}
use Rattle.smc_num.specs.Fraction.{Fraction}
use Rattle.chain_model.specs.declared.job.Claim.{Claim}
use Rattle.wald_test.specs.Settings.{theta_outside, delta_not_positive, an_error_outside, errors_too_large, unless}
use Rattle.smc_settings.specs.declared.commands.TestWords.{TestWords}
use Rattle.smc_settings.specs.declared.commands.TestWords.TheVariants as test
use Rattle.run_goal.specs.declared.fault.SettingsFault.{SettingsFault}
use Rattle.run_goal.specs.declared.fault.SettingsFault.TheVariants as fault
use Rattle.run_goal.specs.Refusal.{first_large, wald_fault, refusal_of_settings, ArePlaced, AreBounded, IsRefused, of_plan, of_theta, of_delta, of_errors, of_sum, of_denominator}

-- the fault of a test, or of what comes behind it
abbrev pub or_later : Bool → SettingsFault → Option SettingsFault → Option SettingsFault
or_later holds here later = if holds then Some here else later

-- where a fault is found, its test held, or it didn't and the fault is a later one
found :
    (P : SettingsFault → Type 0) (holds : Bool) (here : SettingsFault) (later : Option SettingsFault) (told : SettingsFault)
    → (holds ≡ true → P here) → (holds ≡ false → later ≡ Some told → P told) → or_later holds here later ≡ Some told → P told
found P true here later told now behind is = let same : here ≡ told = cc in subst P same (now refl)
found P false here later told now behind is = behind refl is

abbrev pub large_of : Claim → Fraction → Fraction → Fraction → Option Fraction
large_of claim delta alpha beta = first_large (claim.theta ∷ delta ∷ alpha ∷ beta ∷ [])

denominator_found :
    (claim : Claim) (delta alpha beta : Fraction) (large : Option Fraction) (told : SettingsFault) → AreBounded claim delta alpha beta
    → large_of claim delta alpha beta ≡ large → option_map (λ (f : Fraction). fault.Denominator (pos f.den)) large ≡ Some told
    → IsRefused claim (test.Wald delta alpha beta) told
denominator_found claim delta alpha beta None told bounded here is = cc
denominator_found claim delta alpha beta (Some large) told bounded here is =
    let same : fault.Denominator (pos large.den) ≡ told = cc in
    subst (λ f. IsRefused claim (test.Wald delta alpha beta) f) same (of_denominator delta alpha beta large bounded here)

wald_found :
    (claim : Claim) (delta alpha beta : Fraction) (told : SettingsFault) → wald_fault claim delta alpha beta ≡ Some told
    → IsRefused claim (test.Wald delta alpha beta) told
unfolding wald_fault
wald_found claim delta alpha beta told is =
    let P : SettingsFault → Type 0 = λ f. IsRefused claim (test.Wald delta alpha beta) f in
    found P (theta_outside claim.theta) (fault.Theta claim.theta) _ told (λ out. of_theta delta alpha beta out)
    (λ inside later.
    found P (delta_not_positive delta) (fault.Delta delta) _ told (λ out. of_delta delta alpha beta inside out)
    (λ wide later.
    let placed : ArePlaced claim delta = record { inside = inside; wide = wide } in
    found P (an_error_outside alpha beta) (fault.ErrorOutside alpha beta) _ told (λ out. of_errors delta alpha beta placed out)
    (λ errors later.
    found P (errors_too_large alpha beta) (fault.ErrorSum alpha beta) _ told (λ out. of_sum delta alpha beta placed errors out)
    (λ sum later.
    denominator_found claim delta alpha beta (large_of claim delta alpha beta) told (record { placed = placed; errors = errors; sum = sum })
    refl later) later) later) later) is

plan_found : (claim : Claim) (n c : ℕ) (told : SettingsFault) (large : Bool) → nat_le n c ≡ large → (if large then Some (fault.Plan n c) else None) ≡ Some told → IsRefused claim (test.Plan n c) told
plan_found claim n c told true large is =
    let same : fault.Plan n c ≡ told = cc in
    subst (λ f. IsRefused claim (test.Plan n c) f) same (of_plan n c (search rules))
plan_found claim n c told false large is = cc

-- a fault that is found is one that holds, and none before it does
pub holds_first : (claim : Claim) (words : TestWords) (told : SettingsFault) → refusal_of_settings claim words ≡ Some told → IsRefused claim words told
holds_first claim (test.Plan n c) told is = plan_found claim n c told (nat_le n c) refl is
holds_first claim (test.Wald delta alpha beta) told is = wald_found claim delta alpha beta told is

-- and such a fault is found
pub is_found : (claim : Claim) (words : TestWords) (told : SettingsFault) → IsRefused claim words told → refusal_of_settings claim words ≡ Some told
unfolding wald_fault
is_found claim words told (of_plan n c large) = let e : nat_le n c ≡ true = search rules in rw e refl
is_found claim words told (of_theta delta alpha beta out) = rw out refl
is_found claim words told (of_delta delta alpha beta inside out) = rw (inside, out) refl
is_found claim words told (of_errors delta alpha beta placed out) = rw (placed.inside, placed.wide, out) refl
is_found claim words told (of_sum delta alpha beta placed errors out) = rw (placed.inside, placed.wide, errors, out) refl
is_found claim words told (of_denominator delta alpha beta large bounded here) =
    rw (bounded.placed.inside, bounded.placed.wide, bounded.errors, bounded.sum, here) refl

-- ---- a value where there is no fault

pub unless-Err : {A E : Type 0} (o : Option E) (a : A) (e : E) → (unless o a ≡ Err e) ↔ (o ≡ Some e)
unless-Err None a e = (λ h. cc, λ h. cc)
unless-Err (Some f) a e = (λ h. cc, λ h. cc)

pub unless-Ok : {A E : Type 0} (o : Option E) (a b : A) → unless o a ≡ Ok b → (o ≡ None) × (a ≡ b)
unless-Ok None a b h = (refl, cc)
unless-Ok (Some f) a b h = cc
