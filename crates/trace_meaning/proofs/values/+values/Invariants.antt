use Rattle.std.proofs.Common.{◌≡◌, ◌+◌, map, drop}
use Rattle.chain_model.specs.Values.{value_with, level_value, links_value, extreme_value, lesser, greater}
use Rattle.trace_meaning.proofs.values.+values.Given as goal

-- what is left of the chain
abbrev pub invariant-level-loop-index : goal.invariant-level-loop-index
invariant-level-loop-index g l =
    links_value l.value (map (value_with (g.L.BuiltInLabels.values l.labels) l.state) (drop (l.index + 1) l.operands)) (drop l.index l.operators)
    ≡ level_value (map (value_with (g.L.BuiltInLabels.values l.labels) l.state) l.operands) l.operators

-- what is left of the parts
abbrev pub invariant-least-loop-index : goal.invariant-least-loop-index
invariant-least-loop-index g l =
    extreme_value lesser l.value (map (value_with (g.L.BuiltInLabels.values l.labels) l.state) (drop l.index l.parts))
    ≡ extreme_value lesser l.fn.first (map (value_with (g.L.BuiltInLabels.values l.labels) l.state) (drop 1 l.parts))

abbrev pub invariant-greatest-loop-index : goal.invariant-greatest-loop-index
invariant-greatest-loop-index g l =
    extreme_value greater l.value (map (value_with (g.L.BuiltInLabels.values l.labels) l.state) (drop l.index l.parts))
    ≡ extreme_value greater l.fn.first (map (value_with (g.L.BuiltInLabels.values l.labels) l.state) (drop 1 l.parts))
