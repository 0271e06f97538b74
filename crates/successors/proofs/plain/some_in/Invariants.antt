use Rattle.std.proofs.Common.{◌≡◌, drop}
use Rattle.std.specs.List.{list_any}
use Rattle.successors.specs.Plain.{holds_at}
use Rattle.successors.proofs.plain.some_in.Given as goal

-- no command so far is enabled
abbrev pub invariant-loop-number : goal.invariant-loop-number
invariant-loop-number l = list_any (holds_at l.guards l.state) (drop l.number-index l.numbers) ≡ list_any (holds_at l.guards l.state) l.numbers
