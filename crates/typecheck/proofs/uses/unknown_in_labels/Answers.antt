use Rattle.std.proofs.Common.{sym, ◌∙◌}
use Rattle.const_eval.proofs.FirstLemmas.{told_more, told_here}
use Rattle.typed_trees.specs.Scopes.{name_in}
use Rattle.typecheck.specs.Names.{unknown_in}
use Rattle.typecheck.proofs.uses.unknown_in_labels.Goals as goal

pub returns-in-Some : goal.returns-in-Some
returns-in-Some c =
    sym (told_here c.args.labels.now c.loop-label.label-index c.label-item.result c.loop-label-test.true c.label-item.is
    (λ l. unknown_in (name_in c.args.scope.now) l.body) c.loop-label.invariant c.in-Some.name (sym c.in_ok-name.ensures ∙ c.in-Some.is))

pub loop-label-preserved : goal.loop-label-preserved
loop-label-preserved c =
    told_more c.args.labels.now c.loop-label.label-index c.label-item.result c.loop-label-test.true c.label-item.is
    (λ l. unknown_in (name_in c.args.scope.now) l.body) c.loop-label.invariant ∙ (sym c.in_ok-name.ensures ∙ c.in-None.is)
