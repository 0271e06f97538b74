use Rattle.std.proofs.Common.{◌∙◌, sym, ap, arith}
use Rattle.smc_num.specs.Fraction.{signed, within}
use Rattle.smc_num.proofs.GcdLemmas.{gcd_some, coprime_one}
use Rattle.smc_num.proofs.ProductLemmas.{product_by, product-whole}
use Rattle.smc_num.proofs.fraction.products.product.Goals as goal

pub returns-then-b_den-eq1 : goal.returns-then-b_den-eq1
returns-then-b_den-eq1 c =
    c.from_parts.ensures ∙ ap (λ z. within (signed c.args.negative z) 1) c.product_of_sizes.ensures
    ∙ sym (product-whole c.args.negative c.args.a.0 c.args.a.1 c.args.b.0 c.args.b.1 c.if-a_den-eq1.true c.if-b_den-eq1.true (coprime_one _))

pub nonzero_div-a_size : goal.nonzero_div-a_size
nonzero_div-a_size c = gcd_some _ _ _ c.gcd-left.ensures.greatest (omega (arith, c.requires.b_some))

pub nonzero_div-b_size : goal.nonzero_div-b_size
nonzero_div-b_size c = gcd_some _ _ _ c.gcd-right.ensures.greatest (omega (arith, c.requires.a_some))

pub nonzero_div-a_den : goal.nonzero_div-a_den
nonzero_div-a_den c = gcd_some _ _ _ c.gcd-right.ensures.greatest (omega (arith, c.requires.a_some))

pub nonzero_div-b_den : goal.nonzero_div-b_den
nonzero_div-b_den c = gcd_some _ _ _ c.gcd-left.ensures.greatest (omega (arith, c.requires.b_some))

pub from_parts-requires-2-clause-coprime : goal.from_parts-requires-2-clause-coprime
from_parts-requires-2-clause-coprime c =
    (product_by c.args.negative c.args.a.0 c.args.a.1 c.args.b.0 c.args.b.1 _ _ _ _ c.requires.a_coprime c.requires.b_coprime c.requires.a_some c.requires.b_some
    c.gcd-left.ensures.greatest c.gcd-right.ensures.greatest c.product_of_sizes-size.ensures c.product_of_sizes-den.ensures).coprime

pub from_parts-requires-2-clause-some : goal.from_parts-requires-2-clause-some
from_parts-requires-2-clause-some c =
    (product_by c.args.negative c.args.a.0 c.args.a.1 c.args.b.0 c.args.b.1 _ _ _ _ c.requires.a_coprime c.requires.b_coprime c.requires.a_some c.requires.b_some
    c.gcd-left.ensures.greatest c.gcd-right.ensures.greatest c.product_of_sizes-size.ensures c.product_of_sizes-den.ensures).some

pub returns : goal.returns
returns c =
    c.from_parts-2.ensures
    ∙ sym (product_by c.args.negative c.args.a.0 c.args.a.1 c.args.b.0 c.args.b.1 _ _ _ _ c.requires.a_coprime c.requires.b_coprime c.requires.a_some c.requires.b_some
    c.gcd-left.ensures.greatest c.gcd-right.ensures.greatest c.product_of_sizes-size.ensures c.product_of_sizes-den.ensures).value
