use Rattle.std.proofs.Common.{◌≡◌, map, drop}
use Rattle.guard_code.specs.Guards.{told_command, some_enabled, is_single}
use Rattle.guard_code.proofs.guards.some_single.Given as goal

-- none so far is enabled
abbrev pub invariant-loop-command : goal.invariant-loop-command
invariant-loop-command l =
    some_enabled is_single (map (told_command l.state) (drop l.command-index l.commands)) ≡ some_enabled is_single (map (told_command l.state) l.commands)
