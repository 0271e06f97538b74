use Rattle.prism_limits.proofs.PlaceLemmas.{same_first}
use Rattle.prism_limits.proofs.laws.one_first.Goals as goal

pub returns : goal.returns
returns c limit tokens a b first second = same_first a b first second
