use Rattle.std.proofs.Common.{◌≡◌, drop, map, bytes_eq}
use Rattle.indexmap.specs.IndexMap.{get}
use Rattle.typed_trees.specs.Scopes.{tree_in}
use Rattle.typecheck.specs.Parts.{all_made, made_set}
use Rattle.typecheck.proofs.MakingLemmas.{made_with}
use Rattle.typecheck.proofs.commands.made_sets.Given as goal

-- what is made so far, with what is left to make, is what is made of all
abbrev pub invariant-loop-set : goal.invariant-loop-set
invariant-loop-set l = made_with l.made (map (made_set (tree_in l.scope) (get bytes_eq l.scope.variables.now)) (drop l.set-index l.sets)) ≡ all_made (map (made_set (tree_in l.scope) (get bytes_eq l.scope.variables.now)) l.sets)
