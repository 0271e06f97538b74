use Rattle.std.proofs.Common.{length}
use Rattle.prism_lexer.specs.Blanks.{Passes}
use Rattle.prism_lexer.proofs.blanks.past_blanks.Given as goal

abbrev pub invariant-loop-after : goal.invariant-loop-after
invariant-loop-after l = Passes l.text l.rest

abbrev pub decreases-loop-after : goal.decreases-loop-after
decreases-loop-after l = length l.rest
