use Rattle.std.proofs.Common.{◌≡◌, ◌++◌}
use Rattle.trace_report.specs.Lines.{branch_text}
use Rattle.trace_report.proofs.LineLemmas.{told_from}
use Rattle.trace_report.proofs.taken_line.append_branches.Given as goal

-- what is appended, and the commands that are left, make the whole
abbrev pub invariant-loop-place : goal.invariant-loop-place
invariant-loop-place l =
    l.text.items ++ told_from branch_text l.commands l.branches l.place
    ≡ l.initial.text.items ++ told_from branch_text l.commands l.branches 0
