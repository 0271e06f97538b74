use Rattle.std.proofs.Common.{◌≡◌, take, map, bytes_eq}
use Rattle.std.specs.Prelude.{None}
use Rattle.indexmap.specs.IndexMap.{get}
use Rattle.prism_names.specs.First.{first_some}
use Rattle.typecheck.specs.Writes.{global_write}
use Rattle.typecheck.proofs.writes.first_global.Given as goal

-- nothing is told of those so far
abbrev pub invariant-loop-command : goal.invariant-loop-command
invariant-loop-command l = first_some (global_write (get bytes_eq l.owners)) (map (λ c. c.1.now) (take l.command-index l.commands)) ≡ None
