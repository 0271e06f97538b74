use Rattle.block_board.proofs.RuleLemmas.{rule_of}
use Rattle.block_board.proofs.laws.rule_law.Goals as goal

pub returns : goal.returns
returns c = rule_of
