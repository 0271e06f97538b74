use Rattle.std.proofs.Common.{ℕ, ◌<◌, get_or}
use Rattle.guard_code.specs.declared.nodes.Node.{Node}
use Rattle.guard_code.specs.Means.{IsFixed}
use Rattle.guard_code.proofs.kinds.all_fixed.Given as goal

-- each node so far is of the kind
abbrev pub invariant-loop-node : goal.invariant-loop-node
invariant-loop-node l = (k : ℕ) (d : Node) → k < l.node-index → IsFixed (get_or l.nodes k d)
