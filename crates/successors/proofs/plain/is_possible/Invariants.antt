use Rattle.std.proofs.Common.{◌≡◌, drop}
use Rattle.successors.specs.Plain.{holds_at, is_possible}
use Rattle.successors.proofs.plain.is_possible.Given as goal

-- each list so far has an enabled command
abbrev pub invariant-loop-list : goal.invariant-loop-list
invariant-loop-list l = is_possible (holds_at l.guards l.state) (drop l.list-index l.lists) ≡ is_possible (holds_at l.guards l.state) l.lists
