use Rattle.std.proofs.Common.{◌≡◌, ◌++◌, take}
use Rattle.std.specs.Prelude.{codes}
use Rattle.std.specs.List.{flat_map}
use Rattle.trace_report.specs.Lines.{choice_text}
use Rattle.trace_report.proofs.choice_lines.append_others.Given as goal

-- the choices so far
abbrev pub invariant-loop-other : goal.invariant-loop-other
invariant-loop-other l =
    l.text.items ≡ l.initial.text.items
    ++ flat_map (λ other. codes "; " ++ choice_text l.chain other) (take l.other-index l.others)
