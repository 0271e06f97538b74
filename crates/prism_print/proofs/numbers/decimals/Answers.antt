use Rattle.std.proofs.Common.{◌≡◌, ◌<◌, sym, ap, subst, ◌∙◌, unsigned_abs, arith}
use Rattle.smc_num.specs.Fraction.{limit}
use Rattle.smc_num.proofs.SignedLemmas.{passed}
use Rattle.prism_print.proofs.DecimalLemmas.{found_exact, found_none}
use Rattle.prism_print.proofs.numbers.decimals.Goals as goal

pub returns-then-pow-den-eq0-clause-count : goal.returns-then-pow-den-eq0-clause-count
returns-then-pow-den-eq0-clause-count c =
    let small : unsigned_abs c.den.result < limit =
    subst (λ n. unsigned_abs n < limit) (sym c.den.ensures.value) c.den.ensures.lowest.den_small in
    let den = c.unsigned_abs-den.ensures.value ∙ ap unsigned_abs (passed c.den.result small ∙ c.den.ensures.value) in
    found_exact c.args.value c.unsigned_abs-den.result c.pow.result c.loop-places.places den c.pow.ensures
    c.if-pow-den-eq0.true (omega (arith, c.loop-places.auto.places)) (omega (arith, c.loop-places-test.true))
    c.loop-places.invariant

pub returns-clause-count : goal.returns-clause-count
returns-clause-count c =
    let small : unsigned_abs c.den.result < limit =
    subst (λ n. unsigned_abs n < limit) (sym c.den.ensures.value) c.den.ensures.lowest.den_small in
    let den = c.unsigned_abs-den.ensures.value ∙ ap unsigned_abs (passed c.den.result small ∙ c.den.ensures.value) in
    found_none c.args.value c.unsigned_abs-den.result den
    (λ j some few. c.loop-places.invariant j some (omega (arith, few, c.loop-places-test.false)))
