use Rattle.std.proofs.Common.{◌≡◌, drop, map, bytes_eq}
use Rattle.indexmap.specs.IndexMap.{get}
use Rattle.typed_trees.specs.Scopes.{tree_in}
use Rattle.typecheck.specs.Parts.{all_made, made_branch}
use Rattle.typecheck.proofs.MakingLemmas.{made_with}
use Rattle.typecheck.proofs.commands.made_branches.Given as goal

-- what is made so far, with what is left to make, is what is made of all
abbrev pub invariant-loop-branch : goal.invariant-loop-branch
invariant-loop-branch l = made_with l.arms (map (made_branch (tree_in l.scope) (get bytes_eq l.scope.variables.now)) (drop l.branch-index l.branches)) ≡ all_made (map (made_branch (tree_in l.scope) (get bytes_eq l.scope.variables.now)) l.branches)
