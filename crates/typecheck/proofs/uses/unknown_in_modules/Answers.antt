use Rattle.std.proofs.Common.{sym, ◌∙◌, bytes_eq}
use Rattle.indexmap.specs.IndexMap.{get}
use Rattle.const_eval.proofs.FirstLemmas.{told_more, told_here}
use Rattle.typed_trees.specs.Scopes.{name_in}
use Rattle.typecheck.specs.Uses.{unknown_in_module}
use Rattle.typecheck.proofs.uses.unknown_in_modules.Goals as goal

pub returns-in-Some : goal.returns-in-Some
returns-in-Some c =
    sym (told_here c.args.modules.now c.loop-item.item-index c.item-item.result c.loop-item-test.true c.item-item.is
    (unknown_in_module (name_in c.args.constants.now) (name_in c.args.scope.now) (get bytes_eq c.args.scope.now.variables.now)) c.loop-item.invariant c.in-Some.name (sym c.in_ok-name.ensures ∙ c.in-Some.is))

pub loop-item-preserved : goal.loop-item-preserved
loop-item-preserved c =
    told_more c.args.modules.now c.loop-item.item-index c.item-item.result c.loop-item-test.true c.item-item.is
    (unknown_in_module (name_in c.args.constants.now) (name_in c.args.scope.now) (get bytes_eq c.args.scope.now.variables.now)) c.loop-item.invariant ∙ (sym c.in_ok-name.ensures ∙ c.in-None.is)
