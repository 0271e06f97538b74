use Rattle.name_graph.proofs.PartOrderLemmas.{grown_more, stuck_moves}
use Rattle.name_graph.proofs.visiting.pass.Goals as goal

pub loop-place-preserved : goal.loop-place-preserved
loop-place-preserved c = record {
  ordered = c.in_ok-visit.ensures.ordered;
  grown = grown_more _ _ _ _ _ _ _ c.loop-place.invariant.grown c.in_ok-visit.ensures.moved;
  stuck = stuck_moves _ _ _ _ _ _ _ c.loop-place.invariant.grown c.loop-place.invariant.stuck c.in_ok-visit.ensures.moved;
}
