use Rattle.chain_model.specs.Outcome.{IsOutcome}
use Rattle.stop_rules.proofs.BlockLemmas.{block_is_code, block_seen, block_reached}
use Rattle.stop_rules.proofs.laws.block_law.Goals as goal

pub returns-clause-code : goal.returns-clause-code
returns-clause-code c job first count code some few block = block_is_code (IsOutcome job) first count code some few block

pub returns-clause-seen : goal.returns-clause-seen
returns-clause-seen c job flip first count code few block = block_seen (IsOutcome job) flip first count code few block

pub returns-clause-reached : goal.returns-clause-reached
returns-clause-reached c job goal d f count code after few block past = block_reached (IsOutcome job) goal d f count code after few block past
