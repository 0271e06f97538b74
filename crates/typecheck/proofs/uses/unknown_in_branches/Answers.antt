use Rattle.std.proofs.Common.{sym, ◌∙◌, bytes_eq}
use Rattle.indexmap.specs.IndexMap.{get}
use Rattle.const_eval.proofs.FirstLemmas.{told_more, told_here}
use Rattle.typed_trees.specs.Scopes.{name_in}
use Rattle.typecheck.specs.Uses.{unknown_in_branch}
use Rattle.typecheck.proofs.uses.unknown_in_branches.Goals as goal

pub returns-in-Some : goal.returns-in-Some
returns-in-Some c =
    sym (told_here c.args.branches.now c.loop-branch.branch-index c.branch-item.result c.loop-branch-test.true c.branch-item.is
    (unknown_in_branch (name_in c.args.scope.now) (get bytes_eq c.args.scope.now.variables.now)) c.loop-branch.invariant c.in-Some.name (sym c.in_ok-name.ensures ∙ c.in-Some.is))

pub loop-branch-preserved : goal.loop-branch-preserved
loop-branch-preserved c =
    told_more c.args.branches.now c.loop-branch.branch-index c.branch-item.result c.loop-branch-test.true c.branch-item.is
    (unknown_in_branch (name_in c.args.scope.now) (get bytes_eq c.args.scope.now.variables.now)) c.loop-branch.invariant ∙ (sym c.in_ok-name.ensures ∙ c.in-None.is)
