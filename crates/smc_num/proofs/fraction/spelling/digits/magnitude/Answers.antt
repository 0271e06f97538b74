use Rattle.std.proofs.Common.{◌+◌, ◌*◌, ◌^◌, min, sym, ◌∙◌, ap}
use Rattle.smc_num.proofs.DigitsLemmas.{digit_at, value_more, held}
use Rattle.smc_num.proofs.fraction.spelling.digits.magnitude.Goals as goal

pub digit_of-requires : goal.digit_of-requires
digit_of-requires c = digit_at _ _ c.requires c.loop-byte-test.true

pub loop-byte-preserved : goal.loop-byte-preserved
loop-byte-preserved c =
    c.min-size.ensures ∙ ap (λ d. min (c.loop-byte.size * 10 + d) (2 ^ 100)) (c.from.ensures ∙ c.digit_of.ensures.value)
    ∙ held _ c.loop-byte.size _ c.loop-byte.invariant
    ∙ ap (λ v. min v (2 ^ 100)) (sym (value_more 0 c.args.digits.now c.loop-byte.byte-index c.loop-byte-test.true))
