use Rattle.prism_lexer.proofs.BlankLemmas.{passes_nothing, passes_more}
use Rattle.prism_lexer.proofs.blanks.past_blanks.Goals as goal

pub loop-after-init : goal.loop-after-init
loop-after-init c = passes_nothing c.args.text.now

pub loop-after-preserved : goal.loop-after-preserved
loop-after-preserved c = passes_more c.args.text.now c.loop-after.rest.now c.in-Some.after.now c.loop-after.invariant c.in-Some.ensures.passed
