use Rattle.std.proofs.Common.{◌≡◌, map, drop}
use Rattle.guard_code.specs.Guards.{told_command, guards_fault}
use Rattle.guard_code.proofs.guards.guards_fault.Given as goal

-- none of the guards so far faults
abbrev pub invariant-loop-command : goal.invariant-loop-command
invariant-loop-command l = guards_fault (map (told_command l.state) (drop l.command-index l.commands)) ≡ guards_fault (map (told_command l.state) l.commands)
