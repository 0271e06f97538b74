use Rattle.prism_names.proofs.NameLemmas.{one_more, appended_more}
use Rattle.typecheck.specs.Names.{quoted_of}
use Rattle.typecheck.proofs.quoted.+quoted.Goals as goal

pub note_all-loop-expr-preserved : goal.note_all-loop-expr-preserved
note_all-loop-expr-preserved t c =
    appended_more _ _ _ _ _ _ (one_more quoted_of c.args.exprs.now c.loop-expr.expr-index c.expr-item.result c.loop-expr-test.true c.expr-item.is)
    c.loop-expr.invariant c.in_ok-note_quoted.ensures
