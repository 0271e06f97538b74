use Rattle.std.proofs.Common.{◌≡◌, drop}
use Rattle.std.specs.Cmp.Lexicographic.{pointwise}
use Rattle.std.specs.Ordering.{int_eq}
use Rattle.guard_code.proofs.state_labels.is_initial.Given as goal

-- the values so far are the initial ones
abbrev pub invariant-loop-index : goal.invariant-loop-index
invariant-loop-index l = pointwise int_eq (drop l.index l.state) (drop l.index l.start) ≡ pointwise int_eq l.state l.start
