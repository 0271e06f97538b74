use Rattle.prism_names.specs.Names.{names_of}
use Rattle.prism_names.proofs.NameLemmas.{one_more, appended_more}
use Rattle.prism_names.proofs.expressions.+names.Goals as goal

pub note_all-loop-expr-preserved : goal.note_all-loop-expr-preserved
note_all-loop-expr-preserved t c =
    appended_more _ _ _ _ _ _ (one_more names_of c.args.exprs.now c.loop-expr.expr-index c.expr-item.result c.loop-expr-test.true c.expr-item.is)
    c.loop-expr.invariant c.in_ok-note_names.ensures
