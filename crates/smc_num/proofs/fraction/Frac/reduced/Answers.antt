use Rattle.std.proofs.Common.{◌∙◌, sym, arith}
use Rattle.smc_num.proofs.GcdLemmas.{gcd_some}
use Rattle.smc_num.proofs.LowestLemmas.{reduced_by}
use Rattle.smc_num.proofs.fraction.Frac.reduced.Goals as goal

pub nonzero_div-den : goal.nonzero_div-den
nonzero_div-den c = gcd_some _ _ _ c.gcd-shared.ensures.greatest (omega arith)

pub nonzero_div-size : goal.nonzero_div-size
nonzero_div-size c = gcd_some _ _ _ c.gcd-shared.ensures.greatest (omega arith)

pub from_parts-requires-clause-coprime : goal.from_parts-requires-clause-coprime
from_parts-requires-clause-coprime c =
    (reduced_by c.args.negative _ _ _ _ _ c.requires c.gcd-shared.ensures.greatest c.from.ensures c.from-2.ensures).coprime

pub from_parts-requires-clause-some : goal.from_parts-requires-clause-some
from_parts-requires-clause-some c =
    (reduced_by c.args.negative _ _ _ _ _ c.requires c.gcd-shared.ensures.greatest c.from.ensures c.from-2.ensures).some

pub returns : goal.returns
returns c =
    c.from_parts.ensures ∙ sym (reduced_by c.args.negative _ _ _ _ _ c.requires c.gcd-shared.ensures.greatest c.from.ensures c.from-2.ensures).value
