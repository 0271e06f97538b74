use Rattle.std.proofs.Common.{◌≡◌, ◌∷◌, [], ◌++◌, map, drop}
use Rattle.prism_syntax.specs.declared.tokens.Kind.TheVariants as k
use Rattle.prism_print.specs.Pieces.{token, blank, text_of}
use Rattle.prism_print.specs.Layout.{separated, chained, expression}
use Rattle.prism_print.proofs.TextLemmas.{left_of_parts}
use Rattle.prism_print.proofs.expressions.+expressions.Given as goal

-- what is appended, and the arguments that are left, make the whole
abbrev pub invariant-append_arguments-loop-index : goal.invariant-append_arguments-loop-index
invariant-append_arguments-loop-index l =
    l.text.items ++ left_of_parts (token k.Comma ∷ blank ∷ []) expression l.index (drop l.index l.parts)
    ≡ l.initial.text.items ++ text_of (separated (token k.Comma ∷ blank ∷ []) (map expression l.parts))

-- what is appended, and the operands that are left, make the whole
abbrev pub invariant-append_chain-loop-index : goal.invariant-append_chain-loop-index
invariant-append_chain-loop-index l =
    l.text.items ++ text_of (chained (map expression (drop l.index l.operands)) (drop l.index l.operators))
    ≡ l.initial.text.items ++ text_of (chained (map expression l.operands) l.operators)
