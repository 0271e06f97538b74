-- The goal has the rule, and its faults are those of the rule.
use Rattle.std.proofs.Common.{◌≡◌, ◌∙◌, refl, sym}
use Rattle.run_goal.specs.Refusal.{refusal_of_settings}
use Rattle.run_goal.specs.Goal.{rule_of}
use Rattle.run_goal.proofs.RefusalLemmas.{unless-Ok, unless-Err}
use Rattle.run_goal.proofs.GoalLemmas.{exactly_refused}
use Rattle.run_goal.proofs.making.goal.Goals as goal

pub returns-in-Ok-clause-made : goal.returns-in-Ok-clause-made
returns-in-Ok-clause-made c =
    let parts = unless-Ok (refusal_of_settings c.args.claim.now c.args.test.now) (rule_of c.args.claim.now c.args.test.now) c.in-Ok.rule (sym c.rule.ensures ∙ c.in-Ok.is) in
    (parts.0, record { rule = sym parts.1; limit = refl; flip = refl })

pub returns-in-Ok-clause-refused : goal.returns-in-Ok-clause-refused
returns-in-Ok-clause-refused c = exactly_refused c.args.claim.now c.args.test.now c.args.limit _ (returns-in-Ok-clause-made c)

pub returns-in-Err-clause-made : goal.returns-in-Err-clause-made
returns-in-Err-clause-made c =
    (unless-Err (refusal_of_settings c.args.claim.now c.args.test.now) (rule_of c.args.claim.now c.args.test.now) c.in-Err.fault).0 (sym c.rule.ensures ∙ c.in-Err.is)

pub returns-in-Err-clause-refused : goal.returns-in-Err-clause-refused
returns-in-Err-clause-refused c = exactly_refused c.args.claim.now c.args.test.now c.args.limit _ (returns-in-Err-clause-made c)
