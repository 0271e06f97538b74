use Rattle.stop_rules.proofs.ObservationLemmas.{equal_observations}
use Rattle.stop_rules.proofs.laws.one_observation.Goals as goal

pub returns : goal.returns
returns c a b kind state = equal_observations a b kind state
