-- The goal that a claim and the settings of a test make.
use Rattle.std.specs.Prelude.{◌≡◌, ℕ, ◌-◌, pos, Some, None, Result, Ok, Err, if◌then◌else◌}
use Rattle.smc_num.specs.Fraction.{Fraction}
use Rattle.chain_model.specs.declared.job.Claim.{Claim}
use Rattle.wald_test.specs.Settings.{size, probabilities_of, errors_of, joined}
use Rattle.stop_rules.specs.declared.goal.Goal.{Goal}
use Rattle.stop_rules.specs.declared.goal.Rule.{Rule}
use Rattle.stop_rules.specs.declared.goal.Rule.TheVariants as rule
use Rattle.smc_settings.specs.declared.commands.TestWords.{TestWords}
use Rattle.smc_settings.specs.declared.commands.TestWords.TheVariants as test
use Rattle.run_goal.specs.declared.fault.SettingsFault.{SettingsFault}
use Rattle.run_goal.specs.Refusal.{refusal_of_settings}

-- 1 - a for a probability a, over the same denominator
abbrev pub complement : Fraction → Fraction
complement a = record { num = pos (a.den - size a); den = a.den }

-- the probability that the traces are compared with: that of the claim, or of its opposite where the claim is 'at most'
abbrev pub tested : Claim → Fraction
tested claim = if claim.at_most then complement claim.theta else claim.theta

-- what decides on the counts: the plan, which knows no probability, or Wald's test
abbrev pub rule_of : Claim → TestWords → Rule
rule_of claim (test.Plan n c) = rule.Plan (record { samples = n; acceptance_number = c })
rule_of claim (test.Wald delta alpha beta) =
    rule.Wald (joined (probabilities_of (tested claim) delta) (errors_of alpha beta))

-- the goal of a claim under a test: where the claim is 'at most', a trace succeeds where its path formula is false
pub record IsGoal (claim : Claim) (words : TestWords) (most : ℕ) (goal : Goal) : Type 0 where
  pub rule : goal.rule ≡ rule_of claim words
  pub limit : goal.limit ≡ most
  pub flip : goal.flip ≡ claim.at_most

-- the goal, where the settings have no fault; otherwise the first of their faults
abbrev pub IsMade : Claim → TestWords → ℕ → Result Goal SettingsFault → Type 0
IsMade claim words most (Ok goal) = (refusal_of_settings claim words ≡ None) × IsGoal claim words most goal
IsMade claim words most (Err fault) = refusal_of_settings claim words ≡ Some fault
