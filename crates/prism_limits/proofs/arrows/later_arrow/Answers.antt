use Rattle.std.proofs.Common.{refl}
use Rattle.prism_limits.proofs.PlaceLemmas.{first_and_others, none_left}
use Rattle.prism_limits.proofs.ArrowWalkLemmas.{look_next, look_none}
use Rattle.prism_limits.proofs.arrows.later_arrow.Goals as goal

-- the tokens that are left are the first of them and the others
pub loop-rest-preserved : goal.loop-rest-preserved
loop-rest-preserved c =
    let split = first_and_others c.loop-rest.rest.now c.token-item.result _ c.in-len1-up.len_at_least c.token-item.is refl in
    look_next c.in_ok-is_later.field-0 (rw split at c.loop-rest.invariant) (rw split at c.in_ok-is_later.ensures) c.if-branch.false c.in_ok-step.ensures

pub returns-clause-first : goal.returns-clause-first
returns-clause-first c = look_none (rw (← none_left c.loop-rest.rest.now c.in_default.len_below) at c.loop-rest.invariant)
