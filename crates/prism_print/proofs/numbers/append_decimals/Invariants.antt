use Rattle.std.proofs.Common.{◌≡◌, ◌++◌, map}
use Rattle.std.specs.List.{range_with_len}
use Rattle.prism_print.specs.Decimals.{digit_after_point}
use Rattle.prism_print.proofs.numbers.append_decimals.Given as goal

-- the digits so far
abbrev pub invariant-loop-place : goal.invariant-loop-place
invariant-loop-place l = l.text.items ≡ l.initial.text.items ++ map (digit_after_point l.value) (range_with_len 0 l.place)
