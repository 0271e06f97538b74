use Rattle.std.proofs.Common.{◌≡◌, ◌++◌, flat_map, drop}
use Rattle.prism_print.specs.Pieces.{text_of}
use Rattle.prism_print.specs.Printed.{formula_line}
use Rattle.prism_print.proofs.printing.append_formulas.Given as goal

-- what is appended, and the lines that are left, make the whole
abbrev pub invariant-loop-formula : goal.invariant-loop-formula
invariant-loop-formula l =
    l.text.items ++ flat_map (λ x. text_of (formula_line x)) (drop l.formula-index l.formulas)
    ≡ l.initial.text.items ++ flat_map (λ x. text_of (formula_line x)) l.formulas
