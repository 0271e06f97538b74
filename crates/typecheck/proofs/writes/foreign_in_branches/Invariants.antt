use Rattle.std.proofs.Common.{◌≡◌, take, bytes_eq}
use Rattle.std.specs.Prelude.{None, Some, if◌then◌else◌}
use Rattle.indexmap.specs.IndexMap.{get}
use Rattle.prism_names.specs.First.{first_some}
use Rattle.typecheck.specs.Writes.{is_foreign}
use Rattle.typecheck.proofs.writes.foreign_in_branches.Given as goal

-- nothing is told of those so far
abbrev pub invariant-loop-branch : goal.invariant-loop-branch
invariant-loop-branch l = first_some (λ b. first_some (λ s. if is_foreign l.number (get bytes_eq l.owners s.0) then Some s.0 else None) b.sets) (take l.branch-index l.branches) ≡ None
