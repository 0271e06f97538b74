use Rattle.std.proofs.Common.{◌≡◌, ◌<◌, ◌≤◌, ◌^◌, drop}
use Rattle.std.specs.Prelude.{fold}
use Rattle.smc_num.specs.Gcd.{lcm_of}
use Rattle.chain_model.specs.Step.{denominator_of}
use Rattle.trace_meaning.proofs.weights.denominator.Given as goal

-- what is left of the denominators
abbrev pub invariant-loop-weight : goal.invariant-loop-weight
invariant-loop-weight l = record {
  same : fold (λ den weight. lcm_of den weight.den) l.common (drop l.weight-index l.weights) ≡ denominator_of l.weights;
  some : 0 < l.common;
  few : l.common ≤ 2 ^ 48;
}
