use Rattle.std.proofs.Common.{◌≡◌, ◌++◌, flat_map, drop}
use Rattle.prism_print.specs.Pieces.{text_of}
use Rattle.prism_print.specs.Printed.{module_lines}
use Rattle.prism_print.proofs.printing.append_modules.Given as goal

-- what is appended, and the lines that are left, make the whole
abbrev pub invariant-loop-one : goal.invariant-loop-one
invariant-loop-one l =
    l.text.items ++ flat_map (λ x. text_of (module_lines x)) (drop l.one-index l.modules)
    ≡ l.initial.text.items ++ flat_map (λ x. text_of (module_lines x)) l.modules
