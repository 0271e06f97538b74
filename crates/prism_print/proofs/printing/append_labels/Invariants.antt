use Rattle.std.proofs.Common.{◌≡◌, ◌++◌, flat_map, drop}
use Rattle.prism_print.specs.Pieces.{text_of}
use Rattle.prism_print.specs.Printed.{label_line}
use Rattle.prism_print.proofs.printing.append_labels.Given as goal

-- what is appended, and the lines that are left, make the whole
abbrev pub invariant-loop-label : goal.invariant-loop-label
invariant-loop-label l =
    l.text.items ++ flat_map (λ x. text_of (label_line x)) (drop l.label-index l.labels)
    ≡ l.initial.text.items ++ flat_map (λ x. text_of (label_line x)) l.labels
