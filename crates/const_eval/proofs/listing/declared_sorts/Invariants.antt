use Rattle.std.proofs.Common.{◌≡◌, take}
use Rattle.const_eval.specs.Listing.{declared_sorts}
use Rattle.const_eval.proofs.listing.declared_sorts.Given as goal

-- the constants so far
abbrev pub invariant-loop-constant : goal.invariant-loop-constant
invariant-loop-constant l = l.sorts.entries ≡ declared_sorts (take l.constant-index l.consts)
