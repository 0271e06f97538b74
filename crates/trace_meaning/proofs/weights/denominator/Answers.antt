-- The denominators so far are part of the whole.
use Rattle.std.proofs.Common.{List, ap, sym, ◌∙◌, arith}
use Rattle.std.specs.Prelude.{fold}
use Rattle.std.proofs.lemmas.List.{at_drop_all}
use Rattle.smc_num.specs.Gcd.{lcm_of}
use Rattle.smc_num.specs.Fraction.{Fraction}
use Rattle.trace_meaning.proofs.WeightLemmas.{denominator_at, denominator_grows, lcm-le, weight_at}
use Rattle.trace_meaning.proofs.weights.denominator.Goals as goal

pub returns-in-None-clause-value : goal.returns-in-None-clause-value
returns-in-None-clause-value c =
    λ few. c.in-None.ensures
    (omega (
      arith,
      few,
      ap (lcm_of c.loop-weight.common) (c.den.ensures ∙ ap (λ (f : Fraction). f.den) c.weight-item.is),
      denominator_grows c.args.weights.now c.loop-weight.weight-index c.loop-weight.common c.weight-item.result c.requires c.loop-weight-test.true c.loop-weight.invariant.same,
    ))

pub loop-weight-preserved : goal.loop-weight-preserved
loop-weight-preserved c = record {
  same = sym (denominator_at c.args.weights.now c.loop-weight.weight-index c.loop-weight.common c.in-Some.next c.weight-item.result c.loop-weight-test.true
      (c.in-Some.ensures.1 ∙ ap (lcm_of c.loop-weight.common) (c.den.ensures ∙ ap (λ (f : Fraction). f.den) c.weight-item.is))) ∙ c.loop-weight.invariant.same;
  some = omega (
    arith,
    c.in-Some.ensures.1,
    c.loop-weight.invariant.some,
    lcm-le c.loop-weight.common c.den.result (weight_at c.args.weights.now c.loop-weight.weight-index c.weight-item.result c.den.result c.requires c.loop-weight-test.true c.weight-item.is c.den.ensures),
  );
  few = omega (arith, c.in-Some.ensures.0, c.in-Some.ensures.1);
}

pub returns-clause-value : goal.returns-clause-value
returns-clause-value c =
    let same = sym (at_drop_all (λ (ws : List Fraction). fold (λ den weight. lcm_of den weight.den) c.loop-weight.common ws) c.args.weights.now c.loop-weight.weight-index c.loop-weight-test.false)
    ∙ c.loop-weight.invariant.same in
    (omega (arith, same, c.loop-weight.invariant.few), same)
