use Rattle.std.proofs.Common.{◌≡◌, true, sym, ◌∙◌}
use Rattle.std.proofs.lemmas.Bool.{eqb-true, eq-eqb}
use Rattle.prism_reading.proofs.AnswerLemmas.{passed}
use Rattle.prop_parser.proofs.WholeLemmas.{whole_text, whole_missing, none_whole}
use Rattle.prop_parser.proofs.grammar.parse.Goals as goal

pub returns-in_err-tree : goal.returns-in_err-tree
returns-in_err-tree c = passed _ _ _ c.in_err-tree.field-0.0 c.from_residual.result c.from_residual.ensures.1 c.in_err-tree.ensures (λ left none. none_whole none)

pub returns-then-is_empty : goal.returns-then-is_empty
returns-then-is_empty c = whole_text c.in_ok-tree.ensures (eqb-true _ 0 (sym c.if-is_empty.ensures))

pub returns-else-is_empty : goal.returns-else-is_empty
returns-else-is_empty c =
    whole_missing c.in_ok-tree.ensures (λ none.
    let is : c.is_empty.result ≡ true = c.is_empty.ensures ∙ eq-eqb _ 0 none in
    let other = c.if-is_empty.false in
    cc)
