use Rattle.std.proofs.Common.{length}
use Rattle.prism_syntax.specs.Tokens.{kinds}
use Rattle.prism_limits.proofs.NestingLemmas.{Counts}
use Rattle.prism_limits.proofs.nesting.too_deep.Given as goal

-- the walk has come to the tokens that are left
abbrev pub invariant-loop-rest : goal.invariant-loop-rest
invariant-loop-rest l = Counts l.text l.counts (kinds l.tokens) (kinds l.rest) l.index

abbrev pub decreases-loop-rest : goal.decreases-loop-rest
decreases-loop-rest l = length l.rest
