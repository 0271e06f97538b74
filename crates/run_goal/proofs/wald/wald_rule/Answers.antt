-- The rule is that of the test of the probability that is tested.
use Rattle.std.proofs.Common.{◌≡◌, ◌∙◌, sym}
use Rattle.run_goal.specs.declared.fault.SettingsFault.TheVariants as fault
use Rattle.smc_settings.specs.declared.commands.TestWords.TheVariants as test
use Rattle.run_goal.specs.Refusal.{of_theta, wald_fault}
use Rattle.run_goal.specs.Goal.{tested, rule_of}
use Rattle.run_goal.proofs.RefusalLemmas.{is_found, unless-Err}
use Rattle.run_goal.proofs.ToldLemmas.{none_told, test_refused, test_made}
use Rattle.run_goal.proofs.GoalLemmas.{rule_made}
use Rattle.run_goal.proofs.wald.wald_rule.Goals as goal

pub returns-then-is_outside : goal.returns-then-is_outside
returns-then-is_outside c =
    let words = test.Wald c.args.delta c.args.alpha c.args.beta in
    sym ((unless-Err (wald_fault c.args.claim.now c.args.delta c.args.alpha c.args.beta) (rule_of c.args.claim.now words) (fault.Theta c.args.claim.now.theta)).1
    (is_found c.args.claim.now words (fault.Theta c.args.claim.now.theta)
    (of_theta c.args.delta c.args.alpha c.args.beta (sym c.is_outside.ensures ∙ c.if-is_outside.true))))

pub told-requires-clause-first : goal.told-requires-clause-first
told-requires-clause-first c =
    test_refused c.tested.result (tested c.args.claim.now) c.args.delta c.args.alpha c.args.beta c.new.result c.in-Err.fault c.tested.ensures c.new.ensures.value c.in-Err.is

pub returns-in-Ok : goal.returns-in-Ok
returns-in-Ok c =
    let test_is = test_made c.tested.result (tested c.args.claim.now) c.args.delta c.args.alpha c.args.beta c.new.result c.in-Ok.wald c.tested.ensures c.new.ensures.value c.in-Ok.is in
    rule_made c.args.claim.now c.args.delta c.args.alpha c.args.beta c.in-Ok.wald
    (none_told c.args.claim.now c.args.delta c.args.alpha c.args.beta (sym c.is_outside.ensures ∙ c.if-is_outside.false) test_is.none) test_is.made
