use Rattle.std.proofs.Common.{◌-◌, length}
use Rattle.name_graph.specs.PartOrder.{IsPartOrder}
use Rattle.name_graph.proofs.visiting.fill.Given as goal

-- the order is right so far
abbrev pub invariant-loop-order : goal.invariant-loop-order
invariant-loop-order l = IsPartOrder l.graph l.done l.order.items

-- how many places are left
abbrev pub decreases-loop-order : goal.decreases-loop-order
decreases-loop-order l = length l.graph - length l.order.items
