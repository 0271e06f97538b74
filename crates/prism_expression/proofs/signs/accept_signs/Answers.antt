use Rattle.prism_expression.proofs.SignLemmas.{signs_passed}
use Rattle.prism_expression.proofs.signs.accept_signs.Goals as goal

pub loop-after-preserved : goal.loop-after-preserved
loop-after-preserved c = signs_passed c.args.level c.args.tokens.now c.loop-after.rest.now c.in-Some.after.now c.loop-after.invariant c.in-Some.ensures
