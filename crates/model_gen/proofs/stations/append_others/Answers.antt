-- One station more.
use Rattle.std.proofs.Common.{◌≡◌, ◌-◌, ◌++◌, ap, ◌∙◌, rules, arith}
use Rattle.std.specs.Prelude.{flat_map}
use Rattle.std.specs.List.{range_with_len}
use Rattle.model_gen.specs.Ring.{station_after}
use Rattle.model_gen.proofs.LoopLemmas.{one_more}
use Rattle.model_gen.proofs.stations.append_others.Goals as goal

pub loop-station-preserved : goal.loop-station-preserved
loop-station-preserved c =
    let more : c.extend_from_slice.new.self.items ≡ c.loop-station.text.items ++ station_after c.args.stations c.loop-station.station = search rules in
    record {
      text = more ∙ (ap (λ t. t ++ station_after c.args.stations c.loop-station.station) c.loop-station.invariant.text
          ∙ one_more (station_after c.args.stations) c.args.text.now.items c.loop-station.station c.loop-station.invariant.some);
      some = omega arith;
      within = omega arith;
    }

pub returns : goal.returns
returns c =
    let end : c.loop-station.station - 1 ≡ c.args.stations - 1 = search (rules, arith) in
    c.loop-station.invariant.text ∙ ap (λ n. c.args.text.now.items ++ flat_map (station_after c.args.stations) (range_with_len 1 n)) end
