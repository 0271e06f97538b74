use Rattle.std.proofs.Common.{arith}
use Rattle.log_bracket.specs.Scaled.{whole_log2, scaled}
use Rattle.log_bracket.proofs.RunLemmas.{InRange}
use Rattle.log_bracket.proofs.StartLemmas.{IsWholeLog, whole_log, scaled_in_range, scaled_fits}
use Rattle.log_bracket.proofs.scaled.Scaled.of.Goals as goal

-- the highest binary digit stands below place 62
pub overflow_sub-result : goal.overflow_sub-result
overflow_sub-result c =
    let is : IsWholeLog c.args.x (whole_log2 c.args.x) = whole_log c.args.x c.requires.positive c.requires.below in
    omega (arith, is.small)

-- what is made is the definition's
pub returns-clause-value : goal.returns-clause-value
returns-clause-value c =
    let fits = scaled_fits c.args.x c.requires.positive c.requires.below in
    λ i. record { exponent = c.from.ensures i; mantissa = fits i }

pub returns-clause-exponent : goal.returns-clause-exponent
returns-clause-exponent c =
    let is : IsWholeLog c.args.x (whole_log2 c.args.x) = whole_log c.args.x c.requires.positive c.requires.below in
    omega (arith, is.small, c.from.ensures)

pub returns-clause-least : goal.returns-clause-least
returns-clause-least c =
    let range : InRange (scaled c.args.x) = scaled_in_range c.args.x c.requires.positive c.requires.below in
    let fits = scaled_fits c.args.x c.requires.positive c.requires.below in
    rw fits range.least

pub returns-clause-most : goal.returns-clause-most
returns-clause-most c =
    let range : InRange (scaled c.args.x) = scaled_in_range c.args.x c.requires.positive c.requires.below in
    let fits = scaled_fits c.args.x c.requires.positive c.requires.below in
    rw fits range.most
