use Rattle.std.proofs.Common.{◌≡◌, ◌-◌, ◌^◌, take, map, min, sum}
use Rattle.prism_syntax.specs.NodeCount.{node_count}
use Rattle.prism_syntax.proofs.node_count.+nodes.Given as goal

-- the nodes of the trees so far
abbrev pub invariant-nodes_of_all-loop-expr : goal.invariant-nodes_of_all-loop-expr
invariant-nodes_of_all-loop-expr l = l.total ≡ min (sum (map node_count (take l.expr-index l.exprs))) (2 ^ 64 - 1)
