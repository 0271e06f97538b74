use Rattle.std.proofs.Common.{sym, ◌∙◌}
use Rattle.prism_limits.proofs.ArrowWalkLemmas.{none_inside, none_other, none_before, later_answer}
use Rattle.prism_limits.proofs.arrows.is_later.Goals as goal
use Rattle.prism_limits.proofs.arrows.is_later.Goals.{then-chains-via-then-chains, then-chains-via-else-chains+then-not-begins_arrow}

pub returns-then-chains : goal.returns-then-chains
returns-then-chains c = elim c.then-chains.branch [
  | then-chains-via-then-chains w ↦ none_inside _ _ _ _ w.if-chains.true
  | then-chains-via-else-chains+then-not-begins_arrow w ↦ none_other _ _ _ _ (sym w.begins_arrow.ensures ∙ w.if-not-begins_arrow.true)
]

pub returns-in-Some : goal.returns-in-Some
returns-in-Some c = later_answer _ c.args.tokens.now c.split_at.result.1.now c.args.rest.now _ c.is_operand.result c.in-Some.is c.if-not-begins_arrow.ensures c.split_at.ensures.back c.is_operand.ensures

pub returns-in-None : goal.returns-in-None
returns-in-None c = none_before _ _ _ _ c.in-None.is
