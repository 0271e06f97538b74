use Rattle.std.proofs.Common.{◌≡◌, take, bytes_eq}
use Rattle.std.specs.Prelude.{None, Some, if◌then◌else◌}
use Rattle.indexmap.specs.IndexMap.{get}
use Rattle.prism_names.specs.First.{first_some}
use Rattle.typecheck.specs.Writes.{is_foreign}
use Rattle.typecheck.proofs.writes.foreign_in_sets.Given as goal

-- nothing is told of those so far
abbrev pub invariant-loop-set : goal.invariant-loop-set
invariant-loop-set l = first_some (λ s. if is_foreign l.number (get bytes_eq l.owners s.0) then Some s.0 else None) (take l.set-index l.sets) ≡ None
