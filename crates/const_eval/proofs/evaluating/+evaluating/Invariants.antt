use Rattle.std.proofs.Common.{◌≡◌, ◌+◌, map, drop, bytes_eq}
use Rattle.indexmap.specs.IndexMap.{get}
use Rattle.chain_model.specs.Values.{level_value, links_value, extreme_value, lesser, greater}
use Rattle.const_eval.specs.Tables.{op_of}
use Rattle.const_eval.specs.Evaluating.{value_in, by_table}
use Rattle.const_eval.proofs.evaluating.+evaluating.Given as goal

-- what is left of the chain
abbrev pub invariant-level-loop-index : goal.invariant-level-loop-index
invariant-level-loop-index l =
    links_value l.begun (map (value_in (by_table (get bytes_eq l.values))) (drop (l.index + 1) l.operands)) (map op_of (drop l.index l.operators))
    ≡ level_value (map (value_in (by_table (get bytes_eq l.values))) l.operands) (map op_of l.operators)

-- what is left of the parts
abbrev pub invariant-least-loop-index : goal.invariant-least-loop-index
invariant-least-loop-index l =
    extreme_value lesser l.begun (map (value_in (by_table (get bytes_eq l.values))) (drop l.index l.parts))
    ≡ extreme_value lesser l.fn.first (map (value_in (by_table (get bytes_eq l.values))) (drop 1 l.parts))

abbrev pub invariant-greatest-loop-index : goal.invariant-greatest-loop-index
invariant-greatest-loop-index l =
    extreme_value greater l.begun (map (value_in (by_table (get bytes_eq l.values))) (drop l.index l.parts))
    ≡ extreme_value greater l.fn.first (map (value_in (by_table (get bytes_eq l.values))) (drop 1 l.parts))
