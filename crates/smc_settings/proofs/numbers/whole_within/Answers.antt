-- What `parse` read is the value of the digits; where it read nothing the text is no whole number in reach.
use Rattle.std.proofs.Common.{arith, ◌∙◌, sym}
use Rattle.smc_settings.proofs.ValueLemmas.{whole_within-none, whole_within-some}
use Rattle.smc_settings.proofs.numbers.whole_within.Goals as goal

pub returns-in_err-number-clause-value : goal.returns-in_err-number-clause-value
returns-in_err-number-clause-value c =
    c.from_residual.ensures
    ∙ sym (whole_within-none c.args.least c.args.most c.args.text.now (omega (arith, c.ranges.most)) c.in_err-number.ensures)

pub returns-then-number-most-clause-value : goal.returns-then-number-most-clause-value
returns-then-number-most-clause-value c =
    let (numeral, value) = c.in_ok-number.ensures in
    sym (whole_within-some c.args.least c.args.most _ c.args.text.now numeral.0 numeral.1 value c.if-least-number.true c.if-number-most.true)
