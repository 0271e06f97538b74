use Rattle.chain_model.proofs.ChoiceLemmas.{choices_are_all, choices_in_order}
use Rattle.chain_model.proofs.laws.choices_are_all_in_order.Goals as goal

pub returns-clause-all : goal.returns-clause-all
returns-clause-all c chain state choices made choice = choices_are_all chain state choices made choice

pub returns-clause-order : goal.returns-clause-order
returns-clause-order c chain state choices made = choices_in_order chain state choices made
