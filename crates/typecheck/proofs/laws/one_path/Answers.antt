use Rattle.typed_trees.specs.Leaves.{leaf_of}
use Rattle.typed_trees.specs.Numbers.{constant_value}
use Rattle.typecheck.specs.Paths.{sorts_of_variables, label_leaf}
use Rattle.typecheck.proofs.OneLemmas.{typed-once}
use Rattle.typecheck.proofs.laws.one_path.Goals as goal

pub returns : goal.returns
returns c = λ consts chain property path other claim more one two.
    typed-once (leaf_of consts (sorts_of_variables chain.vars)) (label_leaf chain.labels) (constant_value consts) property path other claim more one two
