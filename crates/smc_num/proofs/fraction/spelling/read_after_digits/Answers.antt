use Rattle.std.proofs.Common.{◌<◌, length, sym, ◌∙◌, to_z-of_z, SFits, pos_of_ne-zero, arith}
use Rattle.std.specs.Int.{w128}
use Rattle.std.proofs.lemmas.Bool.{eqb-false}
use Rattle.std.proofs.lemmas.Int.{fits_signed_from_abs}
use Rattle.smc_num.proofs.SpellingLemmas.{digits_outcome, digits_missing}
use Rattle.smc_num.proofs.fraction.spelling.read_after_digits.Goals as goal

pub returns-in-Some : goal.returns-in-Some
returns-in-Some c =
    let some : 0 < length c.args.front.now = pos_of_ne-zero (eqb-false _ 0 (sym c.if-is_empty.ensures)) in
    let fits : SFits w128 c.in-Some.power = fits_signed_from_abs w128 c.in-Some.power (omega (arith, c.in-Some.ensures.bound)) in
    digits_outcome c.args.negative c.args.front.now c.args.text.now c.in-Some.power c.decimal.result some c.in-Some.ensures.value
    (λ p is. c.decimal.ensures p (to_z-of_z fits ∙ is))

pub returns-in-None : goal.returns-in-None
returns-in-None c = digits_missing c.args.negative c.args.front.now c.args.text.now c.in-None.ensures.value
