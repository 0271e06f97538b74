use Rattle.std.proofs.Common.{length}
use Rattle.prism_syntax.specs.Tokens.{kinds}
use Rattle.prism_limits.proofs.WordLemmas.{Looks}
use Rattle.prism_limits.proofs.words.refused_word.Given as goal

-- the walk has come to the tokens that are left
abbrev pub invariant-loop-rest : goal.invariant-loop-rest
invariant-loop-rest l = Looks l.text l.inside (kinds l.tokens) (kinds l.rest) l.index

abbrev pub decreases-loop-rest : goal.decreases-loop-rest
decreases-loop-rest l = length l.rest
