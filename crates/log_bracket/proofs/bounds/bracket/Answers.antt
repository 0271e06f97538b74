use Rattle.std.proofs.Common.{◌≡◌, ℕ, ◌+◌, ◌^◌, ◌≤◌, sym, ap, ◌∙◌, subst}
use Rattle.log_bracket.specs.declared.scaled.Scaled.{Scaled}
use Rattle.log_bracket.specs.Bracket.{lower_run, upper_run, top_exponent, bracket_of}
use Rattle.log_bracket.proofs.BracketLemmas.{bracket_low, bracket_high, bracket_width, bracket_exact}
use Rattle.log_bracket.proofs.bounds.bracket.Goals as goal

-- the two ends are those of the two runs
pub returns-clause-value : goal.returns-clause-value
unfolding bracket_of
returns-clause-value c =
    let start = c.of-start.ensures.value in
    let low = ap (λ (s : Scaled). s.exponent) (c.squared_from_below-low.ensures ∙ ap (lower_run 48) start) in
    let high = c.top_exponent.ensures ∙ ap top_exponent (c.squared_from_above-high.ensures.run ∙ ap (upper_run 48) start) in
    λ i. (low i, high i)

-- the certificate of the definition is that of the answer
pub returns-clause-low : goal.returns-clause-low
returns-clause-low c =
    let P : ℕ × ℕ → Type 0 = λ ends. 2 ^ ends.0 ≤ c.args.x ^ (2 ^ 48) in
    subst P (sym (returns-clause-value c)) (bracket_low c.args.x c.requires.positive c.requires.below)

pub returns-clause-high : goal.returns-clause-high
returns-clause-high c =
    let P : ℕ × ℕ → Type 0 = λ ends. c.args.x ^ (2 ^ 48) ≤ 2 ^ ends.1 in
    subst P (sym (returns-clause-value c)) (bracket_high c.args.x c.requires.positive c.requires.below)

pub returns-clause-width : goal.returns-clause-width
returns-clause-width c =
    let P : ℕ × ℕ → Type 0 = λ ends. ends.1 ≤ ends.0 + 2 in
    subst P (sym (returns-clause-value c)) (bracket_width c.args.x c.requires.positive c.requires.below)

pub returns-clause-exact : goal.returns-clause-exact
returns-clause-exact c power =
    let P : ℕ × ℕ → Type 0 = λ ends. ends.0 ≡ ends.1 in
    subst P (sym (returns-clause-value c)) (bracket_exact c.args.x c.requires.below power)
