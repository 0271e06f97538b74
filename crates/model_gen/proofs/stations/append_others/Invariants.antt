use Rattle.std.proofs.Common.{◌≡◌, ◌-◌, ◌≤◌, ◌++◌}
use Rattle.std.specs.Prelude.{flat_map}
use Rattle.std.specs.List.{range_with_len}
use Rattle.model_gen.specs.Ring.{station_after}
use Rattle.model_gen.proofs.stations.append_others.Given as goal

-- the parts so far
abbrev pub invariant-loop-station : goal.invariant-loop-station
invariant-loop-station l = record {
  text : l.text.items ≡ l.fn.text.items ++ flat_map (station_after l.stations) (range_with_len 1 (l.station - 1));
  some : 1 ≤ l.station;
  within : l.station - 1 ≤ l.stations - 1;
}
