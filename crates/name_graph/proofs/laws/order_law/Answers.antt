use Rattle.name_graph.proofs.GraphLemmas.{orders_have_no_cycle}
use Rattle.name_graph.proofs.laws.order_law.Goals as goal

pub returns : goal.returns
returns c = orders_have_no_cycle
