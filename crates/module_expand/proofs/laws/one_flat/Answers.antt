use Rattle.module_expand.proofs.ExpandedLemmas.{one_flat}
use Rattle.module_expand.proofs.laws.one_flat.Goals as goal

pub returns : goal.returns
returns c = one_flat
