-- The choice is one of this action's, or of a further one's.
use Rattle.std.proofs.Common.{◌+◌, ◌^◌, List, ℕ, Some, length, min, take, ap, sym, ◌∙◌}
use Rattle.std.specs.Prelude.{flat_map, slice_get}
use Rattle.successors.specs.Enabled.{is_enabled}
use Rattle.successors.specs.Partition.{joint_lists}
use Rattle.successors.proofs.PlaceLemmas.{placed_here, placed_further}
use Rattle.successors.proofs.decoding.write_action.Goals as goal

pub returns-then-left-many-clause-value : goal.returns-then-left-many-clause-value
returns-then-left-many-clause-value c =
    let p = is_enabled c.args.lane c.args.enabled.now in
    sym (placed_here (joint_lists p) c.args.actions.now c.loop-lists.lists-index c.loop-lists.left c.count_joint-many.result c.lists-item.result (slice_get (flat_map (joint_lists p) c.args.actions.now) c.args.number)
    c.loop-lists-test.true c.lists-item.is c.loop-lists.invariant (c.count_joint-many.ensures ∙ ap (λ (ls : List (List ℕ)). min (length (joint_lists p ls)) (2 ^ 48 + 1)) c.as_slice.ensures) c.if-left-many.true)
    ∙ ap (λ (ls : List (List ℕ)). slice_get (joint_lists p ls) c.loop-lists.left) (sym c.as_slice-then-left-many.ensures)
    ∙ c.write_joint.ensures
    ∙ ap (λ (ls : List (List ℕ)). Some (take (length ls) c.write_joint.new.chosen)) c.as_slice-then-left-many.ensures
    ∙ ap (λ n. Some (take n c.write_joint.new.chosen)) (sym c.len.ensures)

pub loop-lists-preserved : goal.loop-lists-preserved
loop-lists-preserved c =
    let p = is_enabled c.args.lane c.args.enabled.now in
    placed_further (joint_lists p) c.args.actions.now c.loop-lists.lists-index c.loop-lists.left c.count_joint-many.result c.lists-item.result (slice_get (flat_map (joint_lists p) c.args.actions.now) c.args.number)
    c.loop-lists-test.true c.lists-item.is c.loop-lists.invariant (c.count_joint-many.ensures ∙ ap (λ (ls : List (List ℕ)). min (length (joint_lists p ls)) (2 ^ 48 + 1)) c.as_slice.ensures) c.if-left-many.false
