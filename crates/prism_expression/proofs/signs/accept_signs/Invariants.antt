use Rattle.std.proofs.Common.{length}
use Rattle.prism_expression.proofs.SignLemmas.{SignsSoFar}
use Rattle.prism_expression.proofs.signs.accept_signs.Given as goal

-- only signs have been passed
abbrev pub invariant-loop-after : goal.invariant-loop-after
invariant-loop-after l = SignsSoFar l.level l.tokens l.rest

abbrev pub decreases-loop-after : goal.decreases-loop-after
decreases-loop-after l = length l.rest
