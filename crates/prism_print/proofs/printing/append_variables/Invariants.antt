use Rattle.std.proofs.Common.{◌≡◌, ◌++◌, flat_map, drop}
use Rattle.prism_print.specs.Pieces.{text_of}
use Rattle.prism_print.specs.Printed.{indented, variable_line}
use Rattle.prism_print.proofs.printing.append_variables.Given as goal

-- what is appended, and the lines that are left, make the whole
abbrev pub invariant-loop-variable : goal.invariant-loop-variable
invariant-loop-variable l =
    l.text.items ++ flat_map (λ x. text_of (indented (variable_line x))) (drop l.variable-index l.vars)
    ≡ l.initial.text.items ++ flat_map (λ x. text_of (indented (variable_line x))) l.vars
