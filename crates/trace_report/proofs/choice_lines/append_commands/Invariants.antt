use Rattle.std.proofs.Common.{◌≡◌, ◌++◌, take}
use Rattle.std.specs.List.{flat_map}
use Rattle.trace_report.specs.Lines.{command_text}
use Rattle.trace_report.proofs.choice_lines.append_commands.Given as goal

-- the commands so far
abbrev pub invariant-loop-number : goal.invariant-loop-number
invariant-loop-number l = l.text.items ≡ l.initial.text.items ++ flat_map command_text (take l.number-index l.commands)
