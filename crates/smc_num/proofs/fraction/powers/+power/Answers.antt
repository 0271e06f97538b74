use Rattle.std.proofs.Common.{◌<◌, ◌^◌, ◌/◌, ◌+◌, ◌*◌, SomeIff, sym, ◌∙◌, ap, subst, arith}
use Rattle.smc_num.specs.Fraction.{limit}
use Rattle.smc_num.proofs.PowerLemmas.{no_power, squared, even_power, odd_power}
use Rattle.smc_num.proofs.fraction.powers.+power.Goals as goal

pub returns-in_err-half : goal.returns-in_err-half
returns-in_err-half t c =
    subst (λ r. SomeIff r (c.args.base ^ c.args.k < limit) (c.args.base ^ c.args.k)) (sym c.from_residual.ensures)
    (no_power c.args.base (c.args.k / 2) c.args.k (omega arith) c.in_err-half.ensures)

pub returns-in_err-square : goal.returns-in_err-square
returns-in_err-square t c =
    subst (λ r. SomeIff r (c.args.base ^ c.args.k < limit) (c.args.base ^ c.args.k)) (sym c.from_residual-in_err-square.ensures)
    (no_power c.args.base (c.args.k / 2 + c.args.k / 2) c.args.k (omega arith)
    (λ small. c.in_err-square.ensures (subst (λ n. n < limit) (sym (squared c.args.base c.args.k c.in_ok-half.half c.in_ok-half.ensures.1)) small)))

pub returns-then-k-eq1 : goal.returns-then-k-eq1
returns-then-k-eq1 t c =
    let value = ap (λ n. n * c.args.base) c.in_ok-square.ensures.1 ∙ odd_power c.args.base c.args.k c.in_ok-half.half c.in_ok-half.ensures.1 c.if-k-eq1.true in
    subst (λ n. SomeIff c.product_below_limit-then-k-eq1.result (n < limit) n) value c.product_below_limit-then-k-eq1.ensures

pub returns-else-k-eq1 : goal.returns-else-k-eq1
returns-else-k-eq1 t c =
    let value = even_power c.args.base c.args.k c.in_ok-half.half c.in_ok-half.ensures.1 c.if-k-eq1.false in
    (subst (λ n. n < limit) value c.in_ok-square.ensures.0, c.in_ok-square.ensures.1 ∙ value)
