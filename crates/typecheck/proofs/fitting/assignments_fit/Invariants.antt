use Rattle.std.proofs.Common.{◌≡◌, take, true}
use Rattle.std.specs.List.{list_all}
use Rattle.typed_trees.specs.Scopes.{tree_in}
use Rattle.typecheck.specs.Items.{assignment_fits}
use Rattle.typecheck.specs.Sorts.{sort_in}
use Rattle.typecheck.proofs.fitting.assignments_fit.Given as goal

-- all so far fit
abbrev pub invariant-loop-set : goal.invariant-loop-set
invariant-loop-set l = list_all (assignment_fits (tree_in l.scope) (sort_in l.scope)) (take l.set-index l.sets) ≡ true
