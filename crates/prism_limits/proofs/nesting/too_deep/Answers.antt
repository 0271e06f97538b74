use Rattle.std.proofs.Common.{arith, refl}
use Rattle.prism_limits.proofs.PlaceLemmas.{first_and_others, none_left, walk_below}
use Rattle.prism_limits.proofs.NestingLemmas.{count_next, count_none, has_room}
use Rattle.prism_limits.proofs.nesting.too_deep.Goals as goal

pub step-counts-requires : goal.step-counts-requires
step-counts-requires c =
    let split = first_and_others c.loop-rest.rest.now c.token-item.result _ c.in-len1-up.len_at_least c.token-item.is refl in
    let below = walk_below c.args.tokens.now (rw split at c.loop-rest.invariant) in
    has_room c.loop-rest.invariant (omega arith)

-- the tokens that are left are the first of them and the others
pub loop-rest-preserved : goal.loop-rest-preserved
loop-rest-preserved c =
    let split = first_and_others c.loop-rest.rest.now c.token-item.result _ c.in-len1-up.len_at_least c.token-item.is refl in
    count_next (rw split at c.loop-rest.invariant) c.is_too_many.ensures c.if-is_too_many.false c.step-counts.ensures

pub returns-clause-first : goal.returns-clause-first
returns-clause-first c = count_none (rw (← none_left c.loop-rest.rest.now c.in_default.len_below) at c.loop-rest.invariant)
