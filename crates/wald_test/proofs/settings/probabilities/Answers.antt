use Rattle.std.proofs.Common.{◌≡◌, ◌*◌, ◌+◌, ◌<◌, ◌^◌, ℕ, min, sym, ◌∙◌, ap₂, subst, arith, false, unsigned_abs}
use Rattle.std.proofs.lemmas.Bool.{ltb-false}
use Rattle.smc_num.specs.Fraction.{Fraction}
use Rattle.wald_test.specs.Settings.{theta_outside, delta_not_positive, denominator_large, probabilities_of, least_terms}
use Rattle.wald_test.proofs.SettingsLemmas.{AreWidths, AreProbabilities, theta_most, delta_some, middle_small, upper_cut, lower_cut, probability_terms, probabilities_known}
use Rattle.wald_test.proofs.settings.probabilities.Goals as goal

-- the two settings as whole numbers
widths :
    (theta delta : Fraction) → theta_outside theta ≡ false → 0 < theta.den → denominator_large theta ≡ false →
    delta_not_positive delta ≡ false → 0 < delta.den → denominator_large delta ≡ false →
    AreWidths (unsigned_abs theta.num) theta.den (unsigned_abs delta.num) delta.den
widths theta delta first first_some first_small second second_some second_small = record {
  theta_most = theta_most theta.num theta.den first;
  theta_some = first_some;
  theta_small = ltb-false (2 ^ 31) theta.den first_small;
  delta_some = delta_some delta.num second;
  parts_some = second_some;
  parts_small = ltb-false (2 ^ 31) delta.den second_small;
}

pub overflow_add-middle : goal.overflow_add-middle
overflow_add-middle c =
    let t : ℕ = unsigned_abs c.args.theta.num in
    let s : ℕ = c.args.theta.den in
    let w : ℕ = unsigned_abs c.args.delta.num in
    let x : ℕ = c.args.delta.den in
    let same :
    c.size.result * c.denominator-delta_parts.result + c.min.result * c.denominator-theta_parts.result ≡ t * x + min w x * s =
    cc in
    let small : t * x + min w x * s < 2 ^ 64 =
    middle_small t s w x
    (widths c.args.theta c.args.delta c.requires.theta c.requires.theta_some c.requires.theta_small c.requires.delta c.requires.delta_some c.requires.delta_small) in
    omega arith

-- the code's terms are those of the widths
terms : (c : goal.After-least) → c.least.result ≡ probability_terms (unsigned_abs c.args.theta.num) c.args.theta.den (unsigned_abs c.args.delta.num) c.args.delta.den
terms c = cc

pub returns-clause-value : goal.returns-clause-value
unfolding probabilities_of
returns-clause-value c =
    let t : ℕ = unsigned_abs c.args.theta.num in
    let s : ℕ = c.args.theta.den in
    let w : ℕ = unsigned_abs c.args.delta.num in
    let x : ℕ = c.args.delta.den in
    terms c ∙ ap₂ (λ (a b : ℕ). least_terms a b (s * x)) (upper_cut t s w x) (lower_cut t s w x (theta_most c.args.theta.num s c.requires.theta))

-- what is known of the terms
known : (c : goal.After-least) → AreProbabilities c.least.result
known c =
    subst AreProbabilities (sym (terms c))
    (probabilities_known (unsigned_abs c.args.theta.num) c.args.theta.den (unsigned_abs c.args.delta.num) c.args.delta.den
    (widths c.args.theta c.args.delta c.requires.theta c.requires.theta_some c.requires.theta_small c.requires.delta c.requires.delta_some c.requires.delta_small))

pub returns-clause-apart : goal.returns-clause-apart
returns-clause-apart c = (known c).apart

pub returns-clause-most : goal.returns-clause-most
returns-clause-most c = (known c).most

pub returns-clause-small : goal.returns-clause-small
returns-clause-small c = (known c).small
