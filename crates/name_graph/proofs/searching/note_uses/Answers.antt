use Rattle.std.proofs.Common.{rules, ap, ◌∙◌}
use Rattle.name_graph.proofs.SearchLemmas.{adds_skip_at, adds_push_at}
use Rattle.name_graph.proofs.searching.note_uses.Goals as goal
use Rattle.name_graph.proofs.searching.note_uses.Goals.{then-not-seen-place+in_ok-push, else-not-seen-place}

pub loop-place-preserved : goal.loop-place-preserved
loop-place-preserved c = elim c.if-not-seen-place.branch [
  | then-not-seen-place+in_ok-push w ↦ adds_push_at _ _ _ _ _ _ _ _ c.loop-place-test.true c.loop-place.invariant (search rules) w.if-not-seen-place.true w.seen-is (ap (λ v. v.items) w.rest-is ∙ w.in_ok-push.ensures.items)
  | else-not-seen-place w ↦ adds_skip_at _ _ _ _ _ _ _ _ c.loop-place-test.true c.loop-place.invariant w.if-not-seen-place.false w.seen-is (ap (λ v. v.items) w.rest-is)
]
