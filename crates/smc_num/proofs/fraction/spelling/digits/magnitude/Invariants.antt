use Rattle.std.proofs.Common.{◌≡◌, ◌^◌, min, take}
use Rattle.std.specs.Str.Parse.{digits_value_after}
use Rattle.smc_num.proofs.fraction.spelling.digits.magnitude.Given as goal

abbrev pub invariant-loop-byte : goal.invariant-loop-byte
invariant-loop-byte l = l.size ≡ min (digits_value_after 10 0 (take l.byte-index l.digits)) (2 ^ 100)
