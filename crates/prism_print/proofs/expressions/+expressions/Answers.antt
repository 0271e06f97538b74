use Rattle.std.proofs.Common.{◌∷◌, [], arith}
use Rattle.prism_syntax.specs.declared.tokens.Kind.TheVariants as k
use Rattle.prism_syntax.specs.Spelling.{spelling_of}
use Rattle.prism_print.specs.Pieces.{Piece, token, blank}
use Rattle.prism_print.specs.Layout.{expression}
use Rattle.prism_print.proofs.TextLemmas.{all_left, part_appended, parts_appended}
use Rattle.prism_print.proofs.expressions.+expressions.Goals as goal

pub append_arguments-loop-index-init : goal.append_arguments-loop-index-init
append_arguments-loop-index-init t c =
    all_left (token k.Comma ∷ blank ∷ []) expression c.args.parts.now c.args.text.now.items

pub append_arguments-loop-index-preserved : goal.append_arguments-loop-index-preserved
unfolding spelling_of
append_arguments-loop-index-preserved t c =
    part_appended (token k.Comma ∷ blank ∷ []) expression c.loop-index.index c.args.parts.now c.index-parts-index.result
    c.loop-index.text.items c.append_between.new.text.items c.append_expression.new.text.items _ c.loop-index-test.true
    c.index-parts-index.is c.in_ok-append_between.ensures c.in_ok-append_expression.ensures c.loop-index.invariant

pub append_arguments-returns : goal.append_arguments-returns
append_arguments-returns t c =
    parts_appended (token k.Comma ∷ blank ∷ []) expression c.loop-index.index c.args.parts.now c.loop-index.text.items _
    (omega (arith, c.loop-index-test.false)) c.loop-index.invariant
