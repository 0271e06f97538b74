use Rattle.std.proofs.Common.{length}
use Rattle.prism_lexer.specs.Steps.{IsCutting}
use Rattle.prism_lexer.proofs.cut.cut.Given as goal

abbrev pub invariant-loop-rest : goal.invariant-loop-rest
invariant-loop-rest l = IsCutting l.text l.tokens.items l.rest

abbrev pub decreases-loop-rest : goal.decreases-loop-rest
decreases-loop-rest l = length l.rest
