use Rattle.prism_expression.proofs.CompareLemmas
use Rattle.prism_expression.proofs.laws.one_tree.Goals as goal

pub returns : goal.returns
returns c labels level tokens x y first second = CompareLemmas.one_tree first second
