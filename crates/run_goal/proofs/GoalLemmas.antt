-- The rule of a goal, and its refusals.
use Rattle.std.proofs.Common.{◌≡◌, ◌∙◌, ◌↔◌, ℕ, refl, sym, ap, Option, Some, None, Result, Ok, Err}
use Rattle.smc_num.specs.Fraction.{Fraction}
use Rattle.chain_model.specs.declared.job.Claim.{Claim}
use Rattle.wald_test.specs.SequentialTest.{SequentialTest}
use Rattle.wald_test.specs.Settings.{probabilities_of, errors_of, joined, unless}
use Rattle.stop_rules.specs.declared.goal.Goal.{Goal}
use Rattle.stop_rules.specs.declared.goal.Rule.{Rule}
use Rattle.stop_rules.specs.declared.goal.Rule.TheVariants as rule
use Rattle.smc_settings.specs.declared.commands.TestWords.{TestWords}
use Rattle.run_goal.specs.declared.fault.SettingsFault.{SettingsFault}
use Rattle.run_goal.specs.Refusal.{wald_fault, refusal_of_settings, IsRefused}
use Rattle.run_goal.specs.Goal.{tested, rule_of, IsMade}
use Rattle.run_goal.proofs.RefusalLemmas.{holds_first, is_found, unless-Err}
use Rattle.run_goal.proofs.ToldLemmas.{IsTestOf}

-- a rule where there is no fault
pub rule_made :
    (claim : Claim) (delta alpha beta : Fraction) (t : SequentialTest) → wald_fault claim delta alpha beta ≡ None → joined (probabilities_of (tested claim) delta) (errors_of alpha beta) ≡ t
    → Ok (rule.Wald t) ≡ unless (wald_fault claim delta alpha beta) (rule.Wald (joined (probabilities_of (tested claim) delta) (errors_of alpha beta)))
rule_made claim delta alpha beta t none made =
    let with_test : SequentialTest → Result Rule SettingsFault = λ t. Ok (rule.Wald t) in
    ap with_test (sym made)
    ∙ sym (ap (λ (o : Option SettingsFault). unless o (rule.Wald (joined (probabilities_of (tested claim) delta) (errors_of alpha beta)))) none)

-- the fault of an answer that is made so
pub exactly_refused :
    (claim : Claim) (words : TestWords) (most : ℕ) (r : Result Goal SettingsFault) → IsMade claim words most r
    → (fault : SettingsFault) → (r ≡ Err fault) ↔ IsRefused claim words fault
exactly_refused claim words most (Ok goal) made fault =
    (λ is. cc, λ held. let bad : None ≡ Some fault = sym made.0 ∙ is_found claim words fault held in cc)
exactly_refused claim words most (Err told) made fault = (
  λ is. let same : told ≡ fault = cc in holds_first claim words fault (made ∙ ap (λ f. Some f) same),
  λ held. let same : Some told ≡ Some fault = sym made ∙ is_found claim words fault held in let told_is : told ≡ fault = cc in let refused : SettingsFault → Result Goal SettingsFault = λ f. Err f in ap refused told_is,
)
