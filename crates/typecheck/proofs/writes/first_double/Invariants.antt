use Rattle.std.proofs.Common.{◌≡◌, take, map}
use Rattle.std.specs.Prelude.{None}
use Rattle.prism_names.specs.First.{first_some}
use Rattle.typecheck.specs.Writes.{double_write}
use Rattle.typecheck.proofs.writes.first_double.Given as goal

-- nothing is told of those so far
abbrev pub invariant-loop-command : goal.invariant-loop-command
invariant-loop-command l = first_some (double_write) (map (λ c. c.1.now) (take l.command-index l.commands)) ≡ None
