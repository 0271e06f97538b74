use Rattle.std.proofs.Common.{◌≡◌, ◌-◌, ◌≤◌, ◌+◌, ◌++◌, codes}
use Rattle.std.specs.Prelude.{flat_map}
use Rattle.std.specs.List.{range_with_len}
use Rattle.model_gen.specs.Ring.{token}
use Rattle.model_gen.proofs.formula.append_tokens.Given as goal

-- the parts so far
abbrev pub invariant-loop-station : goal.invariant-loop-station
invariant-loop-station l = record {
  text : l.text.items ≡ l.fn.text.items ++ flat_map (λ station. token station (station + 1) ++ codes "+") (range_with_len 1 (l.station - 1));
  some : 1 ≤ l.station;
  within : l.station - 1 ≤ l.stations - 1;
}
