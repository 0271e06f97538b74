use Rattle.std.proofs.Common.{◌≡◌, ◌<◌, ◌^◌, ◌+ℤ◌, ◌-ℤ◌, pos, length, ◌∙◌, ap, to_z, of_z, pos_of_ne-zero, arith}
use Rattle.std.specs.Int.{w128}
use Rattle.std.proofs.lemmas.Int.{ints}
use Rattle.smc_num.specs.Spelling.{limited_of}
use Rattle.smc_num.proofs.DigitsLemmas.{significant-start, decimal-long_front, decimal-long_part, decimal-none, decimal-some}
use Rattle.smc_num.proofs.fraction.spelling.values.decimal.Goals as goal

pub returns-in_default : goal.returns-in_default
returns-in_default c = λ p same.
    decimal-long_front c.args.negative c.args.front.now c.args.part.now _ c.requires.part (c.in_default.ensures.value 0 significant-start)

pub returns-in_default-append_all : goal.returns-in_default-append_all
returns-in_default-append_all c = λ p same.
    decimal-long_part c.args.negative c.args.front.now c.args.part.now _ (c.in_default-append_all.ensures.value _ (c.in-Some.ensures.value 0 significant-start))

pub returns-then-number-eq0 : goal.returns-then-number-eq0
returns-then-number-eq0 c = λ p same.
    decimal-none c.args.negative c.args.front.now c.args.part.now _ _ _ (c.in-Some-append_all.ensures.value _ (c.in-Some.ensures.value 0 significant-start)) c.if-number-eq0.true

pub limited-requires-clause-small : goal.limited-requires-clause-small
limited-requires-clause-small c = (c.in-Some-append_all.ensures.value _ (c.in-Some.ensures.value 0 significant-start)).small

pub returns : goal.returns
returns c = λ p same.
    let is = c.in-Some-append_all.ensures.value _ (c.in-Some.ensures.value 0 significant-start) in
    let places_small : length c.args.part.now < 2 ^ 70 = omega arith in
    let zeros_small : c.in-Some-append_all.number.zeros < 2 ^ 70 = omega (arith, c.in-Some.ensures.zeros, c.in-Some-append_all.ensures.zeros) in
    let bound = c.requires.power in
    let total : to_z w128 (of_z w128 (to_z w128 (of_z w128 (to_z w128 (of_z w128 c.args.power) -ℤ to_z w128 (length c.args.part.now))) +ℤ to_z w128 c.in-Some-append_all.number.zeros)) ≡ (c.args.power -ℤ pos (length c.args.part.now)) +ℤ pos c.in-Some-append_all.number.zeros =
    omega (arith, ints) in
    c.limited.ensures ∙ ap (limited_of c.args.negative c.in-Some-append_all.number.digits) total
    ∙ decimal-some c.args.negative c.args.front.now c.args.part.now c.args.power p _ _ is (pos_of_ne-zero c.if-number-eq0.false) places_small zeros_small same
