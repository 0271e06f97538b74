use Rattle.std.proofs.Common.{◌≡◌, take, map}
use Rattle.std.specs.Prelude.{None}
use Rattle.typed_trees.specs.Numbers.{constant_value}
use Rattle.typecheck.specs.Ranges.{first_variable_fault}
use Rattle.typecheck.proofs.ranges.first_variable_fault.Given as goal

-- no variable so far has a fault
abbrev pub invariant-loop-number : goal.invariant-loop-number
invariant-loop-number l = first_variable_fault (constant_value l.consts) (map (λ v. v.1.now) (take l.number l.variables)) ≡ None
