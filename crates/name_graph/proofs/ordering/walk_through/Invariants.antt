use Rattle.name_graph.specs.PartOrder.{IsPartOrder}
use Rattle.name_graph.proofs.ordering.walk_through.Given as goal

-- the order is right so far
abbrev pub invariant-loop : goal.invariant-loop
invariant-loop l = IsPartOrder l.graph l.done l.order.items
