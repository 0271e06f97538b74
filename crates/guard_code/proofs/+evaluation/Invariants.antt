use Rattle.std.proofs.Common.{◌≡◌, ◌+◌, map, drop}
use Rattle.chain_model.specs.Values.{level_value, links_value, extreme_value, lesser, greater}
use Rattle.guard_code.specs.Wholes.{truth_of, stored_of, wholes_result, wholes_after, extreme_after, junction_result}
use Rattle.guard_code.specs.Nodes.{node_value}
use Rattle.guard_code.proofs.+evaluation.Given as goal

-- what is left of a chain of whole numbers
abbrev pub invariant-chains::arithmetic-loop-index : goal.invariant-chains::arithmetic-loop-index
invariant-chains::arithmetic-loop-index g l =
    wholes_after l.number (map stored_of (map (node_value (g.L.BuiltInLabels.values l.labels) l.state) (drop (l.index + 1) l.parts))) (drop l.index l.ops)
    ≡ wholes_result (map stored_of (map (node_value (g.L.BuiltInLabels.values l.labels) l.state) l.parts)) l.ops

-- what is left of the parts of a choice
abbrev pub invariant-calls::extreme_after-loop-index : goal.invariant-calls::extreme_after-loop-index
invariant-calls::extreme_after-loop-index g l =
    extreme_after l.fn.func l.chosen (map stored_of (map (node_value (g.L.BuiltInLabels.values l.labels) l.state) (drop l.index l.parts)))
    ≡ extreme_after l.fn.func l.fn.first (map stored_of (map (node_value (g.L.BuiltInLabels.values l.labels) l.state) (drop 1 l.parts)))

-- no part so far has the deciding truth value
abbrev pub invariant-chains::junction-loop-part : goal.invariant-chains::junction-loop-part
invariant-chains::junction-loop-part g l =
    junction_result l.deciding (map truth_of (map (node_value (g.L.BuiltInLabels.values l.labels) l.state) (drop l.part-index l.parts)))
    ≡ junction_result l.deciding (map truth_of (map (node_value (g.L.BuiltInLabels.values l.labels) l.state) l.parts))

-- what is left of the chain
abbrev pub invariant-chains::level-loop-index : goal.invariant-chains::level-loop-index
invariant-chains::level-loop-index g l =
    links_value l.joined (map (node_value (g.L.BuiltInLabels.values l.labels) l.state) (drop (l.index + 1) l.parts)) (drop l.index l.ops)
    ≡ level_value (map (node_value (g.L.BuiltInLabels.values l.labels) l.state) l.parts) l.ops

-- what is left of the parts
abbrev pub invariant-calls::least-loop-index : goal.invariant-calls::least-loop-index
invariant-calls::least-loop-index g l =
    extreme_value lesser l.chosen (map (node_value (g.L.BuiltInLabels.values l.labels) l.state) (drop l.index l.parts))
    ≡ extreme_value lesser l.fn.first (map (node_value (g.L.BuiltInLabels.values l.labels) l.state) (drop 1 l.parts))

abbrev pub invariant-calls::greatest-loop-index : goal.invariant-calls::greatest-loop-index
invariant-calls::greatest-loop-index g l =
    extreme_value greater l.chosen (map (node_value (g.L.BuiltInLabels.values l.labels) l.state) (drop l.index l.parts))
    ≡ extreme_value greater l.fn.first (map (node_value (g.L.BuiltInLabels.values l.labels) l.state) (drop 1 l.parts))
