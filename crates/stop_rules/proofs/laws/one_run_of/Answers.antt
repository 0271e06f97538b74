use Rattle.stop_rules.proofs.RunLemmas.{ends_over}
use Rattle.stop_rules.proofs.ReachLemmas.{reaches-after, ends-after}
use Rattle.stop_rules.proofs.laws.one_run_of.Goals as goal

pub returns-clause-reached : goal.returns-clause-reached
returns-clause-reached g c all goal d f now after p q = reaches-after (g.O.Outcomes.outcome_at all) goal d f now after p q

pub returns-clause-ended : goal.returns-clause-ended
returns-clause-ended g c all goal d f now end p q = ends-after (g.O.Outcomes.outcome_at all) goal d f now end p q

pub returns-clause-seen : goal.returns-clause-seen
returns-clause-seen g c all goal d f seen end p q = ends_over _ _ goal _ end p q
