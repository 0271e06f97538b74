use Rattle.std.proofs.Common.{◌≡◌, ℕ, ◌<◌, ◌^◌, false}
use Rattle.smc_num.specs.Gcd.{divides}
use Rattle.prism_print.proofs.numbers.decimals.Given as goal

-- no number of decimals so far is exact
abbrev pub invariant-loop-places : goal.invariant-loop-places
invariant-loop-places l = (k : ℕ) → 0 < k → k < l.places → divides l.den (10 ^ k) ≡ false
