use Rattle.std.proofs.Common.{◌≡◌, map, drop}
use Rattle.guard_code.specs.Guards.{told_command, some_enabled, is_part_of}
use Rattle.guard_code.proofs.guards.some_part.Given as goal

-- none so far is enabled
abbrev pub invariant-loop-command : goal.invariant-loop-command
invariant-loop-command l =
    some_enabled (is_part_of l.fn.action l.fn.owner) (map (told_command l.state) (drop l.command-index l.commands))
    ≡ some_enabled (is_part_of l.fn.action l.fn.owner) (map (told_command l.state) l.commands)
