use Rattle.std.proofs.Common.{◌+◌, ◌*◌, take, sym, ◌∙◌, ap, subst, arith, take_all}
use Rattle.std.specs.Str.Parse.{digits_value_after}
use Rattle.smc_num.specs.Digits.{IsSignificant, IsLong}
use Rattle.smc_num.proofs.DigitsLemmas.{digit_at, value_more, digits_drop}
use Rattle.smc_num.proofs.fraction.spelling.digits.append_all.Goals as goal

pub digit_of-requires : goal.digit_of-requires
digit_of-requires c = digit_at _ _ c.requires.digits c.loop-byte-test.true

pub returns-in-None-clause-value : goal.returns-in-None-clause-value
returns-in-None-clause-value c = λ n start.
    let before = c.loop-byte.invariant.0 n start in
    let long = c.in-None.ensures.value _ before in
    let here : IsLong (digits_value_after 10 n (take (c.loop-byte.byte-index + 1) c.args.digits.now)) =
    subst IsLong (ap (λ d. digits_value_after 10 n (take c.loop-byte.byte-index c.args.digits.now) * 10 + d) c.digit_of.ensures.value
    ∙ sym (value_more n c.args.digits.now c.loop-byte.byte-index c.loop-byte-test.true)) long in
    digits_drop n c.args.digits.now (c.loop-byte.byte-index + 1) c.requires.digits here

pub loop-byte-preserved : goal.loop-byte-preserved
loop-byte-preserved c = (
  λ n start. subst (λ v. IsSignificant v c.in-Some.next.digits c.in-Some.next.zeros)
      (ap (λ d. digits_value_after 10 n (take c.loop-byte.byte-index c.args.digits.now) * 10 + d) c.digit_of.ensures.value
      ∙ sym (value_more n c.args.digits.now c.loop-byte.byte-index c.loop-byte-test.true))
      (c.in-Some.ensures.value _ (c.loop-byte.invariant.0 n start)),
  omega (arith, c.loop-byte.invariant.1, c.in-Some.ensures.zeros),
)

pub returns-clause-value : goal.returns-clause-value
returns-clause-value c = λ n start.
    subst (λ ds. IsSignificant (digits_value_after 10 n ds) c.loop-byte.number.digits c.loop-byte.number.zeros)
    (take_all c.loop-byte.byte-index c.args.digits.now c.loop-byte-test.false) (c.loop-byte.invariant.0 n start)
