use Rattle.std.proofs.Common.{rules, ◌≡◌, sym, subst}
use Rattle.name_graph.specs.Graph.{IsGraph}
use Rattle.const_eval.specs.Constants.{uses_of}
use Rattle.const_eval.proofs.ResultLemmas.{uses_within}
use Rattle.const_eval.proofs.cycles.definition_order.Goals as goal

pub order-requires-clause-graph : goal.order-requires-clause-graph
order-requires-clause-graph c =
    let same : c.as_slice.result.now ≡ uses_of c.args.consts.now = search rules in
    subst IsGraph (sym same) (uses_within c.args.consts.now)
