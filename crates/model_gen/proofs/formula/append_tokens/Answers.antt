-- One token more.
use Rattle.std.proofs.Common.{◌≡◌, ◌+◌, ◌-◌, ◌++◌, ℕ, List, codes, refl, ap, ◌∙◌, rules, arith}
use Rattle.std.specs.Prelude.{flat_map}
use Rattle.std.specs.List.{range_with_len}
use Rattle.model_gen.specs.Ring.{token}
use Rattle.model_gen.proofs.LoopLemmas.{one_more_in_two}
use Rattle.model_gen.proofs.formula.append_tokens.Goals as goal

abbrev part : ℕ → List ℕ
part station = token station (station + 1) ++ codes "+"

pub loop-station-preserved : goal.loop-station-preserved
loop-station-preserved c =
    let first : c.extend_from_slice.new.self.items ≡ c.loop-station.text.items ++ token c.loop-station.station (c.loop-station.station + 1) = search rules in
    let second : c.extend_from_slice-in-loop-station.new.self.items ≡ c.extend_from_slice.new.self.items ++ codes "+" = search rules in
    record {
      text = one_more_in_two part c.args.text.now.items c.loop-station.text.items c.extend_from_slice.new.self.items c.extend_from_slice-in-loop-station.new.self.items _ _ c.loop-station.station
          c.loop-station.invariant.some c.loop-station.invariant.text first second refl;
      some = omega arith;
      within = omega arith;
    }

pub returns : goal.returns
returns c =
    let end : c.loop-station.station - 1 ≡ c.args.stations - 1 = search (rules, arith) in
    c.loop-station.invariant.text ∙ ap (λ n. c.args.text.now.items ++ flat_map part (range_with_len 1 n)) end
