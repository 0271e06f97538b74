use Rattle.std.proofs.Common.{◌≡◌, take, map}
use Rattle.std.specs.Prelude.{None}
use Rattle.typed_trees.specs.Numbers.{constant_value}
use Rattle.prism_names.specs.First.{first_some}
use Rattle.typecheck.specs.Ranges.{if_outside}
use Rattle.typecheck.proofs.ranges.first_outside_range.Given as goal

-- nothing is told of the variables so far
abbrev pub invariant-loop-variable : goal.invariant-loop-variable
invariant-loop-variable l = first_some (if_outside (constant_value l.consts)) (map (λ v. v.1.now) (take l.variable-index l.variables)) ≡ None
