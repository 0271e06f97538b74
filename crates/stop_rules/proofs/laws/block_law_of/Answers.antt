use Rattle.stop_rules.proofs.BlockLemmas.{block_is_code, block_seen, block_reached}
use Rattle.stop_rules.proofs.laws.block_law_of.Goals as goal

pub returns-clause-code : goal.returns-clause-code
returns-clause-code g c all first count code some few block = block_is_code (g.O.Outcomes.outcome_at all) first count code some few block

pub returns-clause-seen : goal.returns-clause-seen
returns-clause-seen g c all flip first count code few block = block_seen (g.O.Outcomes.outcome_at all) flip first count code few block

pub returns-clause-reached : goal.returns-clause-reached
returns-clause-reached g c all goal d f count code after few block past = block_reached (g.O.Outcomes.outcome_at all) goal d f count code after few block past
