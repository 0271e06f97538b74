-- The code of a block of one trace.
use Rattle.std.proofs.Common.{◌≡◌, ℕ, zero, suc, Bool, false, [], ◌∷◌, refl, sym, ◌∙◌, subst, inl, inr, arith, add-zero}
use Rattle.std.specs.Prelude.{Some, None}
use Rattle.std.proofs.lemmas.Option.{none-some, same_Some}
use Rattle.chain_model.specs.declared.job.Job.{Job}
use Rattle.chain_model.specs.declared.outcome.Outcome.{Outcome}
use Rattle.chain_model.specs.Outcome.{IsOutcome}
use Rattle.stop_rules.specs.Codes.{IsBlockCode, code_of}
use Rattle.stop_rules.specs.Seen.{AreSeen, seen_of}

-- what is seen of one trace
one_seen : (job : Job) (trace : ℕ) (truth : Bool) (outcome : Outcome) → IsOutcome job trace outcome → seen_of false outcome ≡ Some truth
    → AreSeen (IsOutcome job) false trace (Some truth ∷ [])
one_seen job trace truth outcome is seen zero one there =
    (outcome, subst (λ (n : ℕ). IsOutcome job n outcome) (sym (add-zero trace)) is, seen ∙ same_Some (Some truth) one there)
one_seen job trace truth outcome is seen (suc k) one there = absurd (none-some one there)

-- the code of a trace that has a truth value
pub code_of_truth : (job : Job) (trace : ℕ) (truth : Bool) (outcome : Outcome) → IsOutcome job trace outcome → seen_of false outcome ≡ Some truth
    → {code : ℕ} → code ≡ code_of (truth ∷ []) → IsBlockCode (IsOutcome job) trace 1 code
code_of_truth job trace truth outcome is seen {code} same = record {
  truths = truth ∷ [];
  seen = one_seen job trace truth outcome is seen;
  stops = inl refl;
  is = same;
}

-- the code of a trace that faults
pub code_of_fault : (job : Job) (trace : ℕ) (outcome : Outcome) → IsOutcome job trace outcome → seen_of false outcome ≡ None
    → {code : ℕ} → code ≡ code_of [] → IsBlockCode (IsOutcome job) trace 1 code
code_of_fault job trace outcome is seen {code} same = record {
  truths = [];
  seen = λ k one there. absurd (none-some one there);
  stops = inr (omega arith, (outcome, subst (λ (n : ℕ). IsOutcome job n outcome) (sym (add-zero trace)) is, seen));
  is = same;
}
