use Rattle.std.proofs.Common.{◌≡◌, ◌++◌, map, take}
use Rattle.stop_rules.specs.Observers.{digit_of}
use Rattle.stop_rules.proofs.recorder.append_bits.Given as goal

-- the bits up to this one stand at the end
abbrev pub invariant-loop-bit : goal.invariant-loop-bit
invariant-loop-bit l = l.out ≡ l.initial.out ++ map digit_of (take l.bit-index l.bits)
