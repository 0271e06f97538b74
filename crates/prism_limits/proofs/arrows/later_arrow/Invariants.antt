use Rattle.std.proofs.Common.{length}
use Rattle.prism_syntax.specs.Tokens.{kinds}
use Rattle.prism_limits.specs.Arrows.{IsLaterArrow}
use Rattle.prism_limits.specs.ChainWalk.{place_of}
use Rattle.prism_limits.specs.ArrowWalk.{IsAt}
use Rattle.prism_limits.proofs.PlaceLemmas.{Walks}
use Rattle.prism_limits.proofs.arrows.later_arrow.Given as goal

-- the walk has come to the tokens that are left
abbrev pub invariant-loop-rest : goal.invariant-loop-rest
invariant-loop-rest l = Walks (IsAt (place_of l.chains)) (IsLaterArrow l.labels (kinds l.tokens)) (kinds l.tokens) (kinds l.rest) l.index

abbrev pub decreases-loop-rest : goal.decreases-loop-rest
decreases-loop-rest l = length l.rest
