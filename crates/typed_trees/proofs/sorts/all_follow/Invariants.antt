use Rattle.std.proofs.Common.{◌≡◌, true, take}
use Rattle.std.specs.List.{list_all}
use Rattle.chain_model.specs.Sorts.{may_follow}
use Rattle.typed_trees.proofs.sorts.all_follow.Given as goal

-- each operator so far may stand there
abbrev pub invariant-loop-op : goal.invariant-loop-op
invariant-loop-op l = list_all (may_follow l.first) (take l.op-index l.rest) ≡ true
