use Rattle.std.proofs.Common.{◌≡◌, take, map}
use Rattle.const_eval.specs.Tables.{op_of}
use Rattle.typed_trees.proofs.nodes.level_node.Given as goal

-- the operators so far
abbrev pub invariant-loop-op : goal.invariant-loop-op
invariant-loop-op l = l.ops ≡ map op_of (take l.op-index l.operators)
