use Rattle.front_end.proofs.OnePropertyLemmas.{one_property}
use Rattle.front_end.proofs.laws.one_property_law.Goals as goal

pub returns : goal.returns
returns c = one_property
