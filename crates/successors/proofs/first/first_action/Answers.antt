-- The first choice of actions is that of the first with one.
use Rattle.std.proofs.Common.{ℕ, ◌+◌, ◌^◌, List, length, drop, take, min, sym, ap, ◌∙◌, arith, Some}
use Rattle.std.specs.Prelude.{flat_map, slice_get}
use Rattle.trace_meaning.proofs.CombinationLemmas.{get_front}
use Rattle.successors.specs.Enabled.{is_enabled}
use Rattle.successors.specs.Partition.{joint_lists}
use Rattle.successors.proofs.PlaceLemmas.{first_further}
use Rattle.successors.proofs.first.first_action.Goals as goal

pub returns-then-count-gt0-clause-first : goal.returns-then-count-gt0-clause-first
returns-then-count-gt0-clause-first c = λ some.
    let p = is_enabled c.args.lane c.args.enabled.now in
    ap (λ (ls : List (List ℕ)). slice_get ls 0)
    (first_further (joint_lists p) c.args.actions.now c.loop-index.index c.index-actions-index.result c.loop-index-test.true c.index-actions-index.is c.loop-index.invariant)
    ∙ get_front (joint_lists p c.index-actions-index.result) (flat_map (joint_lists p) (drop (c.loop-index.index + 1) c.args.actions.now)) 0
    (omega (arith, c.first_joint-count.ensures.count ∙ ap (λ (ls : List (List ℕ)). min (length (joint_lists p ls)) (2 ^ 48 + 1)) c.as_slice.ensures, c.if-count-gt0.true))
    ∙ ap (λ (ls : List (List ℕ)). slice_get (joint_lists p ls) 0) (sym c.as_slice.ensures)
    ∙ c.first_joint-count.ensures.first c.if-count-gt0.true
    ∙ ap (λ (ls : List (List ℕ)). Some (take (length ls) c.first_joint-count.new.chosen)) c.as_slice.ensures
    ∙ ap (λ n. Some (take n c.first_joint-count.new.chosen)) (sym c.len.ensures)
