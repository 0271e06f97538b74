use Rattle.std.proofs.Common.{◌≡◌, ◌+◌, ◌*◌, ◌<◌, sym, ◌∙◌, ap, ap₂, subst, pos_of_ne-zero, arith}
use Rattle.smc_num.specs.Fraction.{limit}
use Rattle.smc_num.specs.Digits.{IsSignificant}
use Rattle.smc_num.proofs.DigitsLemmas.{significant-zero, significant-digit, long_digit, long_from, last_digit, shifted}
use Rattle.smc_num.proofs.fraction.spelling.digits.append.Goals as goal

pub returns-else-number-eq0-clause-value : goal.returns-else-number-eq0-clause-value
returns-else-number-eq0-clause-value c = λ n is.
    subst (λ d. IsSignificant (n * 10 + d) c.args.number.digits (c.args.number.zeros + 1)) (sym c.if-digit-eq0.true)
    (significant-zero n c.args.number.digits c.args.number.zeros is (pos_of_ne-zero c.if-number-eq0.false))

pub returns-then-number-ge18-clause-value : goal.returns-then-number-ge18-clause-value
returns-then-number-ge18-clause-value c = λ n is.
    long_digit n c.args.number.digits c.args.number.zeros c.args.digit c.requires.digit (pos_of_ne-zero c.if-digit-eq0.false) is c.if-number-ge18.true

pub returns-then-digits-ge-LIMIT-clause-value : goal.returns-then-digits-ge-LIMIT-clause-value
returns-then-digits-ge-LIMIT-clause-value c = λ n is.
    let some = pos_of_ne-zero c.if-digit-eq0.false in
    let value : c.product_of_sizes.result ≡ n * 10 =
    c.product_of_sizes.ensures ∙ ap (λ z. c.args.number.digits * z) c.power_of_ten-shift.ensures.value ∙ shifted n c.args.number.digits c.args.number.zeros is in
    long_from (n * 10 + c.args.digit) (last_digit n c.args.digit c.requires.digit some) (omega (arith, value, c.from.ensures, c.if-digits-ge-LIMIT.true))

pub returns-clause-value : goal.returns-clause-value
returns-clause-value c = λ n is.
    let some = pos_of_ne-zero c.if-digit-eq0.false in
    let value : c.product_of_sizes.result ≡ n * 10 =
    c.product_of_sizes.ensures ∙ ap (λ z. c.args.number.digits * z) c.power_of_ten-shift.ensures.value ∙ shifted n c.args.number.digits c.args.number.zeros is in
    let whole : c.product_of_sizes.result + c.from.result ≡ n * 10 + c.args.digit = ap₂ ◌+◌ value c.from.ensures in
    subst (λ m. IsSignificant (n * 10 + c.args.digit) m 0) (sym whole)
    (significant-digit n c.args.digit c.requires.digit some (subst (λ z. z < limit) whole c.if-digits-ge-LIMIT.false))
