-- The pairs so far, and those that are left.
use Rattle.std.proofs.Common.{◌++◌, List, length}
use Rattle.chain_model.specs.declared.constants.Given.{Given}
use Rattle.smc_settings.specs.Constants.{ArePairs}
use Rattle.smc_settings.proofs.constants.pairs.Given as goal

-- pairs of the rest are pairs of the whole, and a whole that has pairs has them in the rest
abbrev pub invariant-pairs : goal.invariant-pairs
invariant-pairs l =
    ((others : List Given) → ArePairs l.rest others → ArePairs l.fn.text (l.given ++ others))
    × ((all : List Given) → ArePairs l.fn.text all → (others : List Given) × ArePairs l.rest others)

-- the rest gets shorter
abbrev pub decreases-pairs : goal.decreases-pairs
decreases-pairs l = length l.rest
