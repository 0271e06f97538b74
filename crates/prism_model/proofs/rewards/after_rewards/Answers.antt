use Rattle.prism_model.proofs.RewardsLemmas.{passed_begun, end_found, passed_more, end_missing}
use Rattle.prism_model.proofs.TokenLemmas.{first_of}
use Rattle.prism_model.proofs.rewards.after_rewards.Goals as goal

pub loop-rest-init : goal.loop-rest-init
loop-rest-init c = passed_begun _

pub returns-in-EndRewards : goal.returns-in-EndRewards
returns-in-EndRewards c = end_found _ c.loop-rest.invariant (first_of c.loop-rest.rest.now c.first-item.result c.in-len1-up.len_at_least c.first-item.is) c.in-EndRewards.is

pub loop-rest-preserved : goal.loop-rest-preserved
loop-rest-preserved c = passed_more _ c.loop-rest.invariant (first_of c.loop-rest.rest.now c.first-item.result c.in-len1-up.len_at_least c.first-item.is) c.in_default-kind.not-EndRewards

pub returns : goal.returns
returns c = end_missing c.loop-rest.invariant c.in_default.len_below
