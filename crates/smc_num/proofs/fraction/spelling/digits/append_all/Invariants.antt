use Rattle.std.proofs.Common.{ℕ, ◌+◌, ◌≤◌, take}
use Rattle.std.specs.Str.Parse.{digits_value_after}
use Rattle.smc_num.specs.Digits.{IsSignificant}
use Rattle.smc_num.proofs.fraction.spelling.digits.append_all.Given as goal

abbrev pub invariant-loop-byte : goal.invariant-loop-byte
invariant-loop-byte l =
    ((n : ℕ) → IsSignificant n l.fn.start.digits l.fn.start.zeros → IsSignificant (digits_value_after 10 n (take l.byte-index l.digits)) l.number.digits l.number.zeros)
    × (l.number.zeros ≤ l.fn.start.zeros + l.byte-index)
