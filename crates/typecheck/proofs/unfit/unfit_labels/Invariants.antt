use Rattle.std.proofs.Common.{◌≡◌, take}
use Rattle.std.specs.Prelude.{None}
use Rattle.typed_trees.specs.Scopes.{tree_in}
use Rattle.typecheck.specs.Items.{unfit_label}
use Rattle.typecheck.proofs.unfit.unfit_labels.Given as goal

-- the labels so far fit
abbrev pub invariant-loop-number : goal.invariant-loop-number
invariant-loop-number l = unfit_label (tree_in l.scope) (take l.number l.labels) ≡ None
