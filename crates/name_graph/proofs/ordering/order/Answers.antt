use Rattle.std.proofs.Common.{◌≡◌, true}
use Rattle.name_graph.proofs.MarkLemmas.{not_both}
use Rattle.name_graph.proofs.StuckLemmas.{stuck_cycle}
use Rattle.name_graph.proofs.ordering.order.Goals as goal

pub first_cycle-requires-clause-cyclic : goal.first_cycle-requires-clause-cyclic
first_cycle-requires-clause-cyclic c =
    let stuck = c.in_ok-whole.ensures.stuck (λ (holds : c.in_ok-whole.whole ≡ true). not_both c.in_ok-whole.whole holds c.if-whole.false) in
    stuck_cycle c.args.graph.now c.fill.new.done c.fill.new.order.items c.requires.graph c.in_ok-whole.ensures.ordered stuck.0 stuck.1
