-- The probability is the quotient of the two numbers.
use Rattle.smc_report.proofs.QuotientLemmas.{quotient_is}
use Rattle.smc_report.proofs.asked.lower_text.Goals as goal

pub returns : goal.returns
returns c =
    rw (quotient_is c.args.wald.now.lower c.args.wald.now.parts c.p1.result c.p1.ensures) c.fraction_text.ensures
