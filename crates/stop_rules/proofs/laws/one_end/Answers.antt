use Rattle.std.proofs.Common.{◌+◌}
use Rattle.chain_model.specs.Outcome.{IsOutcome}
use Rattle.stop_rules.proofs.EndLemmas.{ends_once}
use Rattle.stop_rules.proofs.SeenLemmas.{sees_one_of}
use Rattle.stop_rules.proofs.BlockLemmas.{code_once}
use Rattle.stop_rules.proofs.laws.one_end.Goals as goal

pub returns-clause-run : goal.returns-clause-run
returns-clause-run c job goal a b p q = ends_once _ goal _ a b (sees_one_of (IsOutcome job) goal.flip 0 (c.one_outcome.ensures job)) p q

pub returns-clause-from : goal.returns-clause-from
returns-clause-from c job goal d f a b p q = ends_once _ goal _ a b (sees_one_of (IsOutcome job) goal.flip (d + f) (c.one_outcome.ensures job)) p q

pub returns-clause-code : goal.returns-clause-code
returns-clause-code c job first count a b p q = code_once (IsOutcome job) first count a b (c.one_outcome.ensures job) p q
