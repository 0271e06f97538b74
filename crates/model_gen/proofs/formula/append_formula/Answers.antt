-- The parts in their order.
use Rattle.std.proofs.Common.{◌≡◌, ◌+◌, ◌++◌, codes, rules}
use Rattle.std.specs.Prelude.{flat_map}
use Rattle.model_gen.specs.Ring.{token, all_but_last, formula_line}
use Rattle.model_gen.proofs.LoopLemmas.{four_parts}
use Rattle.model_gen.proofs.formula.append_formula.Goals as goal

pub returns : goal.returns
unfolding formula_line
returns c =
    let one : c.extend_from_slice.new.self.items ≡ c.args.text.now.items ++ codes "formula tokens = " = c.in_ok-extend_from_slice.ensures.items in
    let two : c.append_tokens.new.text.items ≡ c.extend_from_slice.new.self.items ++ flat_map (λ station. token station (station + 1) ++ codes "+") (all_but_last c.args.stations) = c.in_ok-append_tokens.ensures in
    let three : c.extend_from_slice-2.new.self.items ≡ c.append_tokens.new.text.items ++ token c.args.stations 1 = search rules in
    let all : c.extend_from_slice-3.new.self.items ≡ c.extend_from_slice-2.new.self.items ++ codes ";\n" = c.in_ok-extend_from_slice-3.ensures.items in
    four_parts _ _ _ _ _ _ _ _ _ one two three all
