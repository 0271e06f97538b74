use Rattle.std.proofs.Common.{◌≡◌, ℕ, drop}
use Rattle.typed_trees.specs.Leaves.{shown}
use Rattle.typed_trees.specs.Scopes.{tree_in}
use Rattle.typecheck.specs.Items.{unfit_in_modules}
use Rattle.typecheck.specs.Sorts.{sort_in}
use Rattle.typecheck.proofs.unfit_model.unfit_in_modules.Given as goal

-- nothing is told of the modules so far, and the variables and commands of the next are numbered on
abbrev pub invariant-loop-item : goal.invariant-loop-item
invariant-loop-item l = (n : ℕ) × ((m : ℕ) × ((l.variables ≡ shown n) × ((l.commands ≡ shown m)
    × (unfit_in_modules (tree_in l.constants) (tree_in l.scope) (sort_in l.scope) l.before 0 l.modules
    ≡ unfit_in_modules (tree_in l.constants) (tree_in l.scope) (sort_in l.scope) n m (drop l.item-index l.modules)))))
