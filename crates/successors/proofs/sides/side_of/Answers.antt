-- The side is a constant, or has the expression's node and the variable's range.
use Rattle.successors.proofs.SideLemmas.{ranged_is, constant_is}
use Rattle.successors.proofs.sides.side_of.Goals as goal

pub returns-in-None : goal.returns-in-None
returns-in-None c =
    ranged_is c.args.chain.now c.args.set.now c.in_ok-node.node c.as_slice.result.now c.range_of-range.result c.ranged.result
    c.in_ok-node.ensures c.as_slice.ensures c.range_of-range.ensures c.ranged.ensures

pub returns-in-Some : goal.returns-in-Some
returns-in-Some c =
    constant_is c.args.chain.now c.args.set.now c.in_ok-node.node c.as_slice.result.now c.range_of-range.result c.in-Some.assigned.0 c.in-Some.assigned.1 c.constant.result
    c.in_ok-node.ensures c.as_slice.ensures c.range_of-range.ensures c.in-Some.ensures.0 c.in-Some.ensures.1 c.in-Some.ensures.2 c.constant.ensures
