-- The probability is the quotient of the two numbers.
use Rattle.smc_report.proofs.QuotientLemmas.{quotient_is}
use Rattle.smc_report.proofs.asked.upper_text.Goals as goal

pub returns : goal.returns
returns c =
    rw (quotient_is c.args.wald.now.upper c.args.wald.now.parts c.p0.result c.p0.ensures) c.fraction_text.ensures
