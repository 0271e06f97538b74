-- The choices are those by the bytes: none, or the one whose commands were written.
use Rattle.std.proofs.Common.{◌≡◌, take, Some, sym, ◌∙◌, arith}
use Rattle.std.specs.Prelude.{slice_get}
use Rattle.successors.specs.Enabled.{is_enabled}
use Rattle.successors.specs.Partition.{choice_lists}
use Rattle.successors.proofs.MoveLemmas.{known, count_is, none_made}
use Rattle.successors.proofs.ChoiceLemmas.{one_known}
use Rattle.successors.proofs.choosing.choices_by.Goals as goal

pub returns-in-0-clause-choices : goal.returns-in-0-clause-choices
returns-in-0-clause-choices c =
    let k = known c.args.chain.now c.args.state.now c.args.plan.now 0 c.args.enabled.now c.requires.plan c.requires.guards in
    let counted = count_is c.args.plan.now.partition.singles c.as_slice.result.now c.args.plan.now.partition.actions c.as_slice-2.result.now (is_enabled 0 c.args.enabled.now) c.first_choice-count.result.0 _
    c.as_slice.ensures c.as_slice-2.ensures c.first_choice-count.ensures.count k.size in
    none_made c.args.chain.now c.args.state.now k.choices k.made (omega (arith, counted, c.in-0.is))

pub returns-in-1-clause-choices : goal.returns-in-1-clause-choices
returns-in-1-clause-choices c =
    let k = known c.args.chain.now c.args.state.now c.args.plan.now 0 c.args.enabled.now c.requires.plan c.requires.guards in
    let counted = count_is c.args.plan.now.partition.singles c.as_slice.result.now c.args.plan.now.partition.actions c.as_slice-2.result.now (is_enabled 0 c.args.enabled.now) c.first_choice-count.result.0 _
    c.as_slice.ensures c.as_slice-2.ensures c.first_choice-count.ensures.count k.size in
    let commands = take c.first_choice-count.result.1 c.first_choice-count.new.chosen in
    let found : slice_get (choice_lists (is_enabled 0 c.args.enabled.now) c.args.plan.now.partition.singles c.args.plan.now.partition.actions) 0 ≡ Some commands =
    (λ i. slice_get (choice_lists (is_enabled 0 c.args.enabled.now) (sym c.as_slice.ensures i) (sym c.as_slice-2.ensures i)) 0)
    ∙ c.first_choice-count.ensures.first (omega (arith, c.in-1.is)) in
    one_known c.args.chain.now c.args.state.now k.choices
    (choice_lists (is_enabled 0 c.args.enabled.now) c.args.plan.now.partition.singles c.args.plan.now.partition.actions) commands k.made k.commands
    (omega (arith, counted, c.in-1.is)) found
