use Rattle.std.proofs.Common.{◌≡◌, ◌++◌, flat_map, drop}
use Rattle.prism_print.specs.Pieces.{text_of}
use Rattle.prism_print.specs.Printed.{indented, command_line}
use Rattle.prism_print.proofs.printing.append_commands.Given as goal

-- what is appended, and the lines that are left, make the whole
abbrev pub invariant-loop-command : goal.invariant-loop-command
invariant-loop-command l =
    l.text.items ++ flat_map (λ x. text_of (indented (command_line x))) (drop l.command-index l.commands)
    ≡ l.initial.text.items ++ flat_map (λ x. text_of (indented (command_line x))) l.commands
