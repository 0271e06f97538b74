-- The one choice is that of the first action with one, where the others are not possible.
use Rattle.std.proofs.Common.{sym, take, ◌∙◌}
use Rattle.successors.specs.Plain.{holds_at}
use Rattle.successors.proofs.PlainLemmas.{of_action}
use Rattle.successors.proofs.plain.sole_action.Goals as goal

pub returns-in-One-clause-told : goal.returns-in-One-clause-told
returns-in-One-clause-told c =
    of_action (holds_at c.args.guards.now c.args.state.now) c.args.actions.now c.loop-index.index c.index-actions-index.result c.as_slice.result.now
    (take c.in-One.size c.sole_joint.new.chosen) c.loop-index-test.true c.index-actions-index.is c.loop-index.invariant c.as_slice.ensures c.in-One.ensures.told
    (sym c.some_possible.ensures ∙ c.if-some_possible.false)
