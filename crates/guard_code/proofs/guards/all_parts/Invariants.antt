use Rattle.std.proofs.Common.{◌≡◌, map, drop}
use Rattle.std.specs.List.{list_all}
use Rattle.guard_code.specs.Guards.{told_command, some_enabled, is_part_of}
use Rattle.guard_code.proofs.guards.all_parts.Given as goal

-- each module so far has an enabled command
abbrev pub invariant-loop-owner : goal.invariant-loop-owner
invariant-loop-owner l =
    list_all (λ owner. some_enabled (is_part_of l.fn.action owner) (map (told_command l.state) l.commands)) (drop l.owner-index l.modules)
    ≡ list_all (λ owner. some_enabled (is_part_of l.fn.action owner) (map (told_command l.state) l.commands)) l.modules
