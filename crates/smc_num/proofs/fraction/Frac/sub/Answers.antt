use Rattle.std.proofs.Common.{◌∙◌, ap}
use Rattle.smc_num.specs.Arithmetic.{sum_of}
use Rattle.smc_num.proofs.SumLemmas.{difference_of-sum}
use Rattle.smc_num.proofs.fraction.Frac.sub.Goals as goal

pub returns-clause-value : goal.returns-clause-value
returns-clause-value c =
    c.add.ensures.value ∙ ap (λ b. sum_of c.args.a b) c.negated.ensures ∙ difference_of-sum c.args.a c.args.b
