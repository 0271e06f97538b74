use Rattle.std.proofs.Common.{◌≡◌, ℕ, suc, ◌+◌, ◌*◌, ◌^◌, ◌≤◌, refl, ap, ◌∙◌, arith}
use Rattle.std.proofs.Math.Pow.{pow_mono}
use Rattle.log_bracket.specs.Scaled.{squared_down}
use Rattle.log_bracket.specs.Bracket.{lower_run}
use Rattle.log_bracket.proofs.RunLemmas.{InRange, lower_run_in_range, lower_run_exponent}
use Rattle.log_bracket.proofs.bounds.squared_from_below.Goals as goal

-- no squaring leaves the start
pub loop-done-init : goal.loop-done-init
unfolding lower_run
loop-done-init c = refl

-- the exponents of a run of at most 48 squarings
pub squared_down-run-requires-clause-exponent : goal.squared_down-run-requires-clause-exponent
squared_down-run-requires-clause-exponent c =
    let grown : (lower_run c.loop-done._done c.args.start).exponent + 1 ≤ 62 * 2 ^ c.loop-done._done =
    lower_run_exponent c.loop-done._done c.args.start c.requires.exponent in
    let few : 2 ^ c.loop-done._done ≤ 2 ^ 48 = pow_mono {j = 48} (omega (arith, c.loop-done-test.true)) in
    rw c.loop-done.invariant (omega arith)

-- the mantissas of a run
pub squared_down-run-requires-clause-most : goal.squared_down-run-requires-clause-most
squared_down-run-requires-clause-most c =
    let start : InRange c.args.start = record { least = c.requires.least; most = c.requires.most } in
    let range : InRange (lower_run c.loop-done._done c.args.start) = lower_run_in_range c.loop-done._done c.args.start start in
    rw c.loop-done.invariant range.most

-- one more squaring
pub loop-done-preserved : goal.loop-done-preserved
unfolding lower_run
loop-done-preserved c =
    let next : suc c.loop-done._done ≡ c.loop-done._done + 1 = omega arith in
    c.squared_down-run.ensures ∙ (ap squared_down c.loop-done.invariant ∙ ap (λ (n : ℕ). lower_run n c.args.start) next)

-- all 48 are done
pub returns : goal.returns
returns c =
    let all : c.loop-done._done ≡ 48 = omega arith in
    c.loop-done.invariant ∙ ap (λ (n : ℕ). lower_run n c.args.start) all
