use Rattle.std.proofs.Common.{◌≤◌, All, length, take}
use Rattle.successors.proofs.partition.widest.Given as goal

-- none so far is wider
abbrev pub invariant-loop-lists : goal.invariant-loop-lists
invariant-loop-lists l = record {
  all : All (λ lists. length lists ≤ l.width) (take l.lists-index l.actions);
  some : 1 ≤ l.width;
}
