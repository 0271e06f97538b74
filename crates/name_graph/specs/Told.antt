-- What is told of a graph.
use Rattle.name_graph.specs.declared.orders.Order.{Order}
use Rattle.name_graph.specs.declared.orders.Order.TheVariants.{Whole, Cyclic}
use Rattle.name_graph.specs.Graph.{Graph, IsOrder, IsFirstCycle}

-- an order of all places, or the first place that reaches itself
abbrev pub IsToldOf : Graph → Order → Type 0
IsToldOf graph (Whole order) = IsOrder graph order.items
IsToldOf graph (Cyclic place) = IsFirstCycle graph place
