-- A number of denominator 1 is whole.
use Rattle.std.proofs.Common.{◌≡◌, arith, rules}
use Rattle.std.proofs.lemmas.Grind.{common_steps}
use Rattle.std.proofs.lemmas.Int.{ints}
use Rattle.chain_model.specs.declared.values.Value.TheVariants as v
use Rattle.guard_code.proofs.JoinLemmas.{whole_literal}
use Rattle.guard_code.proofs.kinds.is_whole_literal.Goals as goal

pub returns-in-Num : goal.returns-in-Num
returns-in-Num c = λ holds.
    let is : c.args.value.now ≡ v.Num c.in-Num.number = search rules in
    let one : c.in-Num.number.den ≡ 1 = grind (arith, common_steps, ints, holds, c.den.ensures.value, c.den.ensures.lowest.den_small) in
    whole_literal c.args.value.now c.in-Num.number is one c.den.ensures.lowest
