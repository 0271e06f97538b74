use Rattle.std.proofs.Common.{◌≡◌, ◌↔◌, sym, ◌∙◌, ap, ap₂, subst}
use Rattle.sampling_plan.specs.declared.class.Class.{Class}
use Rattle.sampling_plan.specs.declared.class.Class.TheVariants.{Accept, Reject, Close, Go}
use Rattle.wald_test.specs.declared.likelihood.Likelihood.{Likelihood}
use Rattle.wald_test.specs.SequentialTest.{SequentialTest, IsTest}
use Rattle.wald_test.specs.Settings.{joined}
use Rattle.wald_test.specs.Side.{CrossesAccept, CrossesReject}
use Rattle.wald_test.specs.Decision.{IsClose, class_of}
use Rattle.wald_test.specs.Kept.{sums_at, with_factor, compared, decided}
use Rattle.wald_test.proofs.DecisionLemmas.{decided_by_sums, decided_by_sums-class_of, is_close-near}
use Rattle.wald_test.proofs.ClassLemmas.{class_of-Close, class_of-Accept, class_of-Reject, class_of-Go}
use Rattle.wald_test.proofs.wald.Wald.class.Goals as goal

-- what the code decides is what the sums of the numbers decide
by_sums : (c : goal.After-decided) → c.decided.result ≡ decided_by_sums (joined c.self.inside.probabilities c.self.inside.errors) c.args.successes c.args.failures
unfolding decided_by_sums
by_sums c =
    let kept = c.self.invariant in
    let lower = c.sums-lower.ensures.value ∙ ap (λ (l : Likelihood). sums_at l c.args.successes c.args.failures) kept.lower_is in
    let upper = c.sums-upper.ensures.value ∙ ap (λ (l : Likelihood). sums_at l c.args.successes c.args.failures) kept.upper_is in
    let accept =
    c.compared-accept.ensures ∙ ap₂ compared (c.with_factor.ensures ∙ ap₂ with_factor lower kept.not_alpha_is)
    (c.with_factor-2.ensures ∙ ap₂ with_factor upper kept.beta_is) in
    let reject =
    c.compared-reject.ensures ∙ ap₂ compared (c.with_factor-3.ensures ∙ ap₂ with_factor lower kept.alpha_is)
    (c.with_factor-4.ensures ∙ ap₂ with_factor upper kept.not_beta_is) in
    c.decided.ensures ∙ ap₂ decided accept reject

pub returns-clause-value : goal.returns-clause-value
returns-clause-value c =
    subst (λ (t : SequentialTest). c.decided.result ≡ class_of t c.args.successes c.args.failures) c.self.view_is
    (by_sums c ∙ decided_by_sums-class_of (joined c.self.inside.probabilities c.self.inside.errors) c.args.successes c.args.failures c.self.invariant.test)

pub returns-clause-close : goal.returns-clause-close
returns-clause-close c =
    subst (λ (class : Class). (class ≡ Close) ↔ IsClose c.args.self.now c.args.successes c.args.failures) (sym (returns-clause-value c))
    (class_of-Close c.args.self.now c.args.successes c.args.failures)

pub returns-clause-accept : goal.returns-clause-accept
returns-clause-accept c =
    subst (λ (class : Class). (class ≡ Accept)
    ↔ ((IsClose c.args.self.now c.args.successes c.args.failures → ⊥) × CrossesAccept c.args.self.now c.args.successes c.args.failures)) (sym (returns-clause-value c))
    (class_of-Accept c.args.self.now c.args.successes c.args.failures)

pub returns-clause-reject : goal.returns-clause-reject
returns-clause-reject c =
    subst (λ (class : Class). (class ≡ Reject)
    ↔ ((IsClose c.args.self.now c.args.successes c.args.failures → ⊥) × (CrossesAccept c.args.self.now c.args.successes c.args.failures → ⊥)
    × CrossesReject c.args.self.now c.args.successes c.args.failures)) (sym (returns-clause-value c))
    (class_of-Reject c.args.self.now c.args.successes c.args.failures)

pub returns-clause-go : goal.returns-clause-go
returns-clause-go c =
    subst (λ (class : Class). (class ≡ Go)
    ↔ ((IsClose c.args.self.now c.args.successes c.args.failures → ⊥) × (CrossesAccept c.args.self.now c.args.successes c.args.failures → ⊥)
    × (CrossesReject c.args.self.now c.args.successes c.args.failures → ⊥))) (sym (returns-clause-value c))
    (class_of-Go c.args.self.now c.args.successes c.args.failures)

pub returns-clause-near : goal.returns-clause-near
returns-clause-near c close =
    let is_test : IsTest c.args.self.now = subst IsTest c.self.view_is c.self.invariant.test in
    is_close-near c.args.self.now c.args.successes c.args.failures is_test ((returns-clause-close c).0 close)
