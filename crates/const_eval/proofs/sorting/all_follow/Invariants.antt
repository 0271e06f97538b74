use Rattle.std.proofs.Common.{◌≡◌, true, take}
use Rattle.std.specs.List.{list_all}
use Rattle.chain_model.specs.Sorts.{may_follow}
use Rattle.const_eval.specs.Tables.{op_of}
use Rattle.const_eval.proofs.sorting.all_follow.Given as goal

-- each operator so far may stand there
abbrev pub invariant-loop-op : goal.invariant-loop-op
invariant-loop-op l = list_all (λ op. may_follow (op_of l.first) (op_of op)) (take l.op-index l.rest) ≡ true
