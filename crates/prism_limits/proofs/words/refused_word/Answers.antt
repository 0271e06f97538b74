use Rattle.std.proofs.Common.{arith, refl}
use Rattle.prism_syntax.specs.Tokens.{kinds}
use Rattle.prism_limits.proofs.PlaceLemmas.{first_and_others, none_left, walk_below}
use Rattle.prism_limits.proofs.WordLemmas.{look_start, look_next, look_none, passed}
use Rattle.prism_limits.proofs.words.refused_word.Goals as goal

pub loop-rest-init : goal.loop-rest-init
loop-rest-init c = look_start c.args.text (kinds c.args.tokens.now)

-- the tokens that are left are the first of them and the others
pub loop-rest-preserved : goal.loop-rest-preserved
loop-rest-preserved c =
    let split = first_and_others c.loop-rest.rest.now c.token-item.result _ c.in-len1-up.len_at_least c.token-item.is refl in
    look_next (rw split at c.loop-rest.invariant) (passed c.is_refused_before-refused.ensures c.else-refused.either) c.is_inside-inside.ensures

pub overflow_add-index : goal.overflow_add-index
overflow_add-index c =
    let split = first_and_others c.loop-rest.rest.now c.token-item.result _ c.in-len1-up.len_at_least c.token-item.is refl in
    let below = walk_below c.args.tokens.now (rw split at c.loop-rest.invariant) in
    omega arith

pub returns-clause-first : goal.returns-clause-first
returns-clause-first c = look_none (rw (← none_left c.loop-rest.rest.now c.in_default.len_below) at c.loop-rest.invariant)
