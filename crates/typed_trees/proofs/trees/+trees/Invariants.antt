use Rattle.std.proofs.Common.{◌≡◌, drop, map}
use Rattle.typed_trees.specs.Trees.{all_trees}
use Rattle.typed_trees.specs.Scopes.{tree_in}
use Rattle.typed_trees.proofs.PartLemmas.{all_with}
use Rattle.typed_trees.proofs.trees.+trees.Given as goal

-- the trees so far, and those of the expressions that are left, are those of all
abbrev pub invariant-type_all-loop-expr : goal.invariant-type_all-loop-expr
invariant-type_all-loop-expr l = all_with l.trees (map (tree_in l.scope) (drop l.expr-index l.exprs)) ≡ all_trees (map (tree_in l.scope) l.exprs)
