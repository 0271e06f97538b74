use Rattle.std.proofs.Common.{take}
use Rattle.guard_code.specs.Means.{AllMean}
use Rattle.guard_code.proofs.compiling.+compiling.Given as goal

-- the nodes of the expressions so far
abbrev pub invariant-nodes_of-loop-expr : goal.invariant-nodes_of-loop-expr
invariant-nodes_of-loop-expr l = AllMean l.nodes (take l.expr-index l.exprs)
