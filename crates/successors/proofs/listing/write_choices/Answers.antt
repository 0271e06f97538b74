-- The choices are those by the bytes, and all were written.
use Rattle.std.proofs.Common.{refl, sym, ◌∙◌, arith}
use Rattle.std.specs.Prelude.{slice_get}
use Rattle.successors.specs.Enabled.{is_enabled}
use Rattle.successors.specs.Partition.{choice_lists}
use Rattle.successors.proofs.MoveLemmas.{known, count_is}
use Rattle.successors.proofs.ChoiceLemmas.{all_written}
use Rattle.successors.proofs.listing.write_choices.Goals as goal

pub returns-clause-known : goal.returns-clause-known
returns-clause-known c =
    let k = known c.args.chain.now c.args.state.now c.args.plan.now 0 c.args.enabled.now c.requires.plan c.requires.guards in
    let counted = count_is c.args.plan.now.partition.singles c.as_slice-singles.result.now c.args.plan.now.partition.actions c.as_slice-actions.result.now
    (is_enabled 0 c.args.enabled.now) c.first_choice-count.result.0 _ c.as_slice-singles.ensures c.as_slice-actions.ensures
    c.first_choice-count.ensures.count k.size in
    all_written c.args.chain.now c.args.state.now c.first_choice-count.result.0 c.first_choice-count.result.1 k.choices
    (choice_lists (is_enabled 0 c.args.enabled.now) c.args.plan.now.partition.singles c.args.plan.now.partition.actions) c.write_parts.new.chosen
    k.made k.commands (omega (arith, counted, c.if-count-ge-TOO_MANY.false)) (omega (arith, c.if-count-eq0.false))
    (omega (arith, c.if-count-ge-TOO_MANY.false))
    (omega (arith, c.if-total-chosen.false, c.in_ok-total.ensures, c.write_parts.auto.chosen))
    (λ number lt.
    (λ i. slice_get (choice_lists (is_enabled 0 c.args.enabled.now) (sym c.as_slice-singles.ensures i) (sym c.as_slice-actions.ensures i)) number)
    ∙ c.if-not-write_parts.ensures.parts refl number lt)
