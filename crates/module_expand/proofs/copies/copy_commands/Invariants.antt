use Rattle.std.proofs.Common.{◌≡◌, map, take, bytes_eq}
use Rattle.std.specs.Option.{option_copied}
use Rattle.indexmap.specs.IndexMap.{get}
use Rattle.module_expand.specs.Renamed.{copied_command}
use Rattle.module_expand.proofs.copies.copy_commands.Given as goal

-- the copies so far
abbrev pub invariant-loop-command : goal.invariant-loop-command
invariant-loop-command l = l.copies ≡ map (copied_command (λ n. option_copied (get bytes_eq l.names n))
    (get bytes_eq l.trees)) (take l.command-index l.commands)
