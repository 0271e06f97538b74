use Rattle.typed_trees.proofs.TypedLemmas.{tree_of-IsTyped}
use Rattle.typed_trees.proofs.laws.trees_are_well_typed.Goals as goal

pub returns : goal.returns
returns c = λ vars allowed names labels known told expr tree is. tree_of-IsTyped vars allowed names labels known told expr tree is
