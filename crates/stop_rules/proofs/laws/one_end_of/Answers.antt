use Rattle.std.proofs.Common.{◌+◌}
use Rattle.stop_rules.proofs.EndLemmas.{ends_once}
use Rattle.stop_rules.proofs.SeenLemmas.{sees_one_of}
use Rattle.stop_rules.proofs.BlockLemmas.{code_once}
use Rattle.stop_rules.proofs.laws.one_end_of.Goals as goal

pub returns-clause-end : goal.returns-clause-end
returns-clause-end g c all goal d f a b p q = ends_once _ goal _ a b (sees_one_of (g.O.Outcomes.outcome_at all) goal.flip (d + f) (g.O.Outcomes.one all)) p q

pub returns-clause-code : goal.returns-clause-code
returns-clause-code g c all first count a b p q = code_once (g.O.Outcomes.outcome_at all) first count a b (g.O.Outcomes.one all) p q
