use Rattle.typed_trees.specs.Leaves.{constant_leaf, leaf_of}
use Rattle.typed_trees.specs.Trees.{tree_of, no_label}
use Rattle.typed_trees.specs.Numbers.{constant_value}
use Rattle.typecheck.specs.Paths.{sorts_of_variables, label_leaf}
use Rattle.typecheck.proofs.RefusalLemmas.{refused-once}
use Rattle.typecheck.proofs.laws.one_property_refusal.Goals as goal

pub returns : goal.returns
returns c = λ consts chain property f g told too.
    refused-once (tree_of (constant_leaf consts) no_label) (tree_of (leaf_of consts (sorts_of_variables chain.vars)) (label_leaf chain.labels)) (constant_leaf consts)
    (leaf_of consts (sorts_of_variables chain.vars)) (label_leaf chain.labels) (constant_value consts) property f g told too
