use Rattle.std.proofs.Common.{◌≡◌, ◌++◌}
use Rattle.trace_report.specs.Lines.{variable_text}
use Rattle.trace_report.proofs.LineLemmas.{told_from}
use Rattle.trace_report.proofs.state_line.append_values.Given as goal

-- what is appended, and the variables that are left, make the whole
abbrev pub invariant-loop-number : goal.invariant-loop-number
invariant-loop-number l =
    l.text.items ++ told_from variable_text l.vars l.state l.number
    ≡ l.initial.text.items ++ told_from variable_text l.vars l.state 0
