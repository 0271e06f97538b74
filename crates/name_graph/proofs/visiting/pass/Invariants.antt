use Rattle.std.proofs.Common.{◌≡◌, ◌≤◌, length}
use Rattle.name_graph.specs.PartOrder.{IsPartOrder, IsStuckBelow}
use Rattle.name_graph.proofs.visiting.pass.Given as goal

-- the order is right so far, and where it has not grown, each place below that is not done uses another that is not
abbrev pub invariant-loop-place : goal.invariant-loop-place
invariant-loop-place l = record {
  ordered : IsPartOrder l.graph l.done l.order.items;
  grown : length l.initial.order.items ≤ length l.order.items;
  stuck : length l.order.items ≡ length l.initial.order.items → IsStuckBelow l.graph l.done l.place;
}
