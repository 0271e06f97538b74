use Rattle.std.proofs.Common.{sym, ◌∙◌, subst}
use Rattle.name_graph.specs.Graph.{IsGraph}
use Rattle.module_expand.proofs.OrderLemmas.{uses_graph}
use Rattle.module_expand.proofs.cycles.find_order.Goals as goal

-- each use is of a formula that is there
pub order-requires-clause-graph : goal.order-requires-clause-graph
order-requires-clause-graph c = subst IsGraph (sym (c.as_slice.ensures.value ∙ c.in_ok-graph.ensures))
    (uses_graph c.args.formulas.now)
