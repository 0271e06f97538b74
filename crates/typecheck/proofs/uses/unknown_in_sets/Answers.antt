use Rattle.std.proofs.Common.{sym, ◌∙◌, bytes_eq}
use Rattle.indexmap.specs.IndexMap.{get}
use Rattle.const_eval.proofs.FirstLemmas.{told_more, told_here}
use Rattle.typed_trees.specs.Scopes.{name_in}
use Rattle.typecheck.specs.Uses.{unknown_in_set}
use Rattle.typecheck.proofs.uses.unknown_in_sets.Goals as goal

pub returns-in-Some : goal.returns-in-Some
returns-in-Some c =
    sym (told_here c.args.sets.now c.loop-set.set-index c.set-item.result c.loop-set-test.true c.set-item.is
    (unknown_in_set (name_in c.args.scope.now) (get bytes_eq c.args.scope.now.variables.now)) c.loop-set.invariant c.in-Some.name (sym c.in_ok-name.ensures ∙ c.in-Some.is))

pub loop-set-preserved : goal.loop-set-preserved
loop-set-preserved c =
    told_more c.args.sets.now c.loop-set.set-index c.set-item.result c.loop-set-test.true c.set-item.is
    (unknown_in_set (name_in c.args.scope.now) (get bytes_eq c.args.scope.now.variables.now)) c.loop-set.invariant ∙ (sym c.in_ok-name.ensures ∙ c.in-None.is)
