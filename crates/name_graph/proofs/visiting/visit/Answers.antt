use Rattle.std.proofs.Common.{true, set, subst, sym, All}
use Rattle.name_graph.specs.PartOrder.{IsMarked, IsPartOrder}
use Rattle.name_graph.proofs.GraphLemmas.{row_is}
use Rattle.name_graph.proofs.PartOrderLemmas.{part_order_more}
use Rattle.name_graph.proofs.visiting.visit.Goals as goal

pub returns-in_ok-push-in-None-clause-ordered : goal.returns-in_ok-push-in-None-clause-ordered
returns-in_ok-push-in-None-clause-ordered c =
    let row = row_is c.args.graph.now c.args.place c.index-graph-place.result c.as_slice.result.now c.requires.inside c.index-graph-place.is c.as_slice.ensures in
    subst (IsPartOrder c.args.graph.now (set c.args.done.now c.args.place true)) (sym c.in_ok-push-in-None.ensures.items)
    (part_order_more c.args.graph.now c.args.done.now c.args.order.now.items c.args.place c.requires.ordered c.requires.inside c.if-done-place.false
    (subst (All (λ j. IsMarked c.args.done.now j)) row c.in-None.ensures))
