-- The first fault of the settings is that of the test, with what is told of it.
use Rattle.std.proofs.Common.{◌≡◌, ◌∙◌, sym, ap, Some, w64}
use Rattle.std.proofs.lemmas.Int.{to_z-of_z}
use Rattle.sampling_plan.specs.declared.fault.PlanFault.TheVariants.{ThetaOutside, DeltaNotPositive, ErrorOutside, ErrorsTooLarge, Denominator, BadPlan}
use Rattle.run_goal.specs.declared.fault.SettingsFault.TheVariants as fault
use Rattle.run_goal.proofs.ToldLemmas.{told_is, large_told, no_bad_plan, no_theta, has_large}
use Rattle.run_goal.proofs.wald.told.Goals as goal

pub large_denominator-requires : goal.large_denominator-requires
large_denominator-requires c =
    has_large c.args.claim.now c.args.delta c.args.alpha c.args.beta c.requires.inside (c.requires.first ∙ ap (λ f. Some f) c.in-Denominator.is)

pub unreachable-requires : goal.unreachable-requires
unreachable-requires c =
    no_bad_plan c.args.claim.now c.args.delta c.args.alpha c.args.beta (c.requires.first ∙ ap (λ f. Some f) c.in-BadPlan.is)

pub returns-in-ThetaOutside : goal.returns-in-ThetaOutside
returns-in-ThetaOutside c =
    absurd (no_theta c.args.claim.now c.args.delta c.args.alpha c.args.beta c.requires.inside (c.requires.first ∙ ap (λ f. Some f) c.in-ThetaOutside.is))

pub returns-in-DeltaNotPositive : goal.returns-in-DeltaNotPositive
returns-in-DeltaNotPositive c =
    told_is c.args.claim.now c.args.delta c.args.alpha c.args.beta DeltaNotPositive c.requires.inside (c.requires.first ∙ ap (λ f. Some f) c.in-DeltaNotPositive.is)

pub returns-in-ErrorOutside : goal.returns-in-ErrorOutside
returns-in-ErrorOutside c =
    told_is c.args.claim.now c.args.delta c.args.alpha c.args.beta ErrorOutside c.requires.inside (c.requires.first ∙ ap (λ f. Some f) c.in-ErrorOutside.is)

pub returns-in-ErrorsTooLarge : goal.returns-in-ErrorsTooLarge
returns-in-ErrorsTooLarge c =
    told_is c.args.claim.now c.args.delta c.args.alpha c.args.beta ErrorsTooLarge c.requires.inside (c.requires.first ∙ ap (λ f. Some f) c.in-ErrorsTooLarge.is)

pub returns-in-Denominator : goal.returns-in-Denominator
returns-in-Denominator c =
    told_is c.args.claim.now c.args.delta c.args.alpha c.args.beta Denominator c.requires.inside (c.requires.first ∙ ap (λ f. Some f) c.in-Denominator.is)
    ∙ (large_told _ c.large_denominator.result c.large_denominator.ensures
    ∙ ap (λ den. Some (fault.Denominator den)) (sym (to_z-of_z w64 c.large_denominator.result (record { sfits = c.large_denominator.type_inv }))))
