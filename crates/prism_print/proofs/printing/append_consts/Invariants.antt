use Rattle.std.proofs.Common.{◌≡◌, ◌++◌, flat_map, drop}
use Rattle.prism_print.specs.Pieces.{text_of}
use Rattle.prism_print.specs.Printed.{const_line}
use Rattle.prism_print.proofs.printing.append_consts.Given as goal

-- what is appended, and the lines that are left, make the whole
abbrev pub invariant-loop-constant : goal.invariant-loop-constant
invariant-loop-constant l =
    l.text.items ++ flat_map (λ x. text_of (const_line x)) (drop l.constant-index l.consts)
    ≡ l.initial.text.items ++ flat_map (λ x. text_of (const_line x)) l.consts
