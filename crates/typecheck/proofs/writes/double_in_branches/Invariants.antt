use Rattle.std.proofs.Common.{◌≡◌, take}
use Rattle.std.specs.Prelude.{None}
use Rattle.prism_names.specs.First.{first_some, first_repeated}
use Rattle.typecheck.specs.Writes.{assigned_names}
use Rattle.typecheck.proofs.writes.double_in_branches.Given as goal

-- nothing is told of those so far
abbrev pub invariant-loop-branch : goal.invariant-loop-branch
invariant-loop-branch l = first_some (λ b. first_repeated (assigned_names b) (assigned_names b)) (take l.branch-index l.branches) ≡ None
