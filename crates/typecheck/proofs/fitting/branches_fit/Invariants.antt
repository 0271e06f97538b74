use Rattle.std.proofs.Common.{◌≡◌, take, true}
use Rattle.std.specs.List.{list_all}
use Rattle.typed_trees.specs.Scopes.{tree_in}
use Rattle.typecheck.specs.Items.{branch_fits}
use Rattle.typecheck.specs.Sorts.{sort_in}
use Rattle.typecheck.proofs.fitting.branches_fit.Given as goal

-- all so far fit
abbrev pub invariant-loop-branch : goal.invariant-loop-branch
invariant-loop-branch l = list_all (branch_fits (tree_in l.scope) (sort_in l.scope)) (take l.branch-index l.branches) ≡ true
