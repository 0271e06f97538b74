use Rattle.std.proofs.Common.{◌≡◌, drop, take}
use Rattle.trace_meaning.proofs.ResultLemmas.{prepend}
use Rattle.successors.specs.Enabled.{numbers_with, IsFound}
use Rattle.successors.specs.Commands.{enabled_by}
use Rattle.successors.proofs.guards.write_guards.Given as goal

-- the enabled commands so far, and those of the other guards; what is found of those so far
abbrev pub invariant-loop-number : goal.invariant-loop-number
invariant-loop-number l =
    (prepend (numbers_with 0 0 (take l.number l.bytes)) (enabled_by l.number l.state (drop l.number l.guards)) ≡ enabled_by 0 l.state l.guards)
    × IsFound l.found (numbers_with 0 0 (take l.number l.bytes))
