-- A text of a model tells one flat text at most.
use Rattle.front_end.proofs.OneModelLemmas.{one_flat_told}
use Rattle.front_end.proofs.laws.one_flat_law.Goals as goal

pub returns : goal.returns
returns c = one_flat_told
