use Rattle.chain_model.specs.Outcome.{IsOutcome}
use Rattle.stop_rules.proofs.RunLemmas.{past-append, ends_behind, ends_over}
use Rattle.stop_rules.proofs.ReachLemmas.{reaches-after, ends-after}
use Rattle.stop_rules.proofs.laws.one_run.Goals as goal

pub returns-clause-past : goal.returns-clause-past
returns-clause-past c goal counts now after first more p q = past-append goal counts now after first more p q

pub returns-clause-ended : goal.returns-clause-ended
returns-clause-ended c goal counts now first seen end p q = ends_behind goal counts now first seen end p q

pub returns-clause-reached : goal.returns-clause-reached
returns-clause-reached c job goal d f now after p q = reaches-after (IsOutcome job) goal d f now after p q

pub returns-clause-run : goal.returns-clause-run
returns-clause-run c job goal d f now end p q = ends-after (IsOutcome job) goal d f now end p q

pub returns-clause-seen : goal.returns-clause-seen
returns-clause-seen c job goal d f seen end p q = ends_over _ _ goal _ end p q
