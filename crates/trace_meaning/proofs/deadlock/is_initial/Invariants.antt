use Rattle.std.proofs.Common.{◌≡◌, drop, map}
use Rattle.std.specs.Cmp.Lexicographic.{pointwise}
use Rattle.std.specs.Ordering.{int_eq}
use Rattle.trace_meaning.proofs.deadlock.is_initial.Given as goal

-- the values so far are the initial ones
abbrev pub invariant-loop-index : goal.invariant-loop-index
invariant-loop-index l =
    pointwise int_eq (drop l.index l.state) (map (λ var. var.init) (drop l.index l.vars)) ≡ pointwise int_eq l.state (map (λ var. var.init) l.vars)
