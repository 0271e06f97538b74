use Rattle.std.proofs.Common.{◌≡◌, ◌++◌, flat_map, drop}
use Rattle.prism_print.specs.Pieces.{text_of}
use Rattle.prism_print.specs.Printed.{global_line}
use Rattle.prism_print.proofs.printing.append_globals.Given as goal

-- what is appended, and the lines that are left, make the whole
abbrev pub invariant-loop-variable : goal.invariant-loop-variable
invariant-loop-variable l =
    l.text.items ++ flat_map (λ x. text_of (global_line x)) (drop l.variable-index l.globals)
    ≡ l.initial.text.items ++ flat_map (λ x. text_of (global_line x)) l.globals
