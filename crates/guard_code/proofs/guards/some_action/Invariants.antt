use Rattle.std.proofs.Common.{◌≡◌, map, drop}
use Rattle.std.specs.List.{list_any, enumerate_from}
use Rattle.guard_code.specs.Guards.{told_command, is_possible}
use Rattle.guard_code.proofs.guards.some_action.Given as goal

-- none of the actions so far is possible
abbrev pub invariant-loop-number : goal.invariant-loop-number
invariant-loop-number l =
    list_any (is_possible (map (told_command l.state) l.commands)) (enumerate_from l.number (drop l.number l.takes))
    ≡ list_any (is_possible (map (told_command l.state) l.commands)) (enumerate_from 0 l.takes)
