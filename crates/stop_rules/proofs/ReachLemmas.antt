-- Runs over outcomes that reach some counts, and end or go on from there.
use Rattle.std.proofs.Common.{◌≡◌, ℕ, ◌+◌, inl, inr, Bool, List, [], ◌∷◌, ◌++◌, Some, refl, ap, ◌∙◌, subst, arith, length, map, length-append}
use Rattle.std.proofs.lemmas.List.{length-map, map-append}
use Rattle.chain_model.specs.declared.outcome.Outcome.{Outcome}
use Rattle.stop_rules.specs.declared.end.End.{End}
use Rattle.stop_rules.specs.declared.goal.Goal.{Goal}
use Rattle.stop_rules.specs.Decision.{Counts, counted, counts_after}
use Rattle.stop_rules.specs.Seen.{AreSeen}
use Rattle.stop_rules.specs.Run.{EndsFrom, GoesPast, Reaches}
use Rattle.stop_rules.proofs.RunLemmas.{counts_after-nil, counts_after-append, counts_after-one, counted_once, goes_on-append, past-append}
use Rattle.stop_rules.proofs.SeenLemmas.{get_split, get_some, seen_at_equal, are_seen-append}

-- each trace is counted once
pub sum-counts_after : (truths : List Bool) (counts : Counts) → (counts_after counts truths).d + (counts_after counts truths).f ≡ counts.d + counts.f + length truths
sum-counts_after [] counts = rw (counts_after-nil counts) (omega arith)
sum-counts_after (truth ∷ truths) counts =
    let step : counts_after counts (truth ∷ truths) ≡ counts_after (counted truth counts) truths =
    counts_after-append counts (truth ∷ []) truths ∙ ap (λ (v : Counts). counts_after v truths) (counts_after-one counts truth) in
    let once : (counted truth counts).d + (counted truth counts).f ≡ counts.d + counts.f + 1 = counted_once truth counts (counted truth counts) refl in
    let rest = sum-counts_after truths (counted truth counts) in
    rw step (omega arith)

-- the counts that a run reaches are as many more as it went past
sum_past : (goal : Goal) (counts now : Counts) (truths : List Bool) → GoesPast goal counts truths now → now.d + now.f ≡ counts.d + counts.f + length truths
sum_past goal counts now truths past = rw past.counted (sum-counts_after truths counts)

-- a run that reaches some counts, and others from there
pub reaches-after : (outcome_at : ℕ → Outcome → Type 0) (goal : Goal) (d f : ℕ) (now after : Counts) → Reaches outcome_at goal d f now → Reaches outcome_at goal now.d now.f after → Reaches outcome_at goal d f after
reaches-after outcome_at goal d f now after p q =
    let sum = sum_past goal (record { d = d; f = f }) now p.truths p.past in
    let here : now.d + now.f ≡ d + f + length (map (λ t. Some t) p.truths) = let l = length-map p.truths (λ t. Some t) in omega arith in
    let further : AreSeen outcome_at goal.flip (d + f + length (map (λ t. Some t) p.truths)) (map (λ t. Some t) q.truths) = subst (λ (v : ℕ). AreSeen outcome_at goal.flip v (map (λ t. Some t) q.truths)) here q.seen in
    record {
      truths = p.truths ++ q.truths;
      seen = rw (map-append (λ t. Some t) p.truths q.truths) (are_seen-append outcome_at goal.flip (d + f) (map (λ t. Some t) p.truths) (map (λ t. Some t) q.truths) p.seen further);
      past = past-append goal (record { d = d; f = f }) now after p.truths q.truths p.past q.past;
    }

-- a run that reaches some counts, and ends from there
pub ends-after : (outcome_at : ℕ → Outcome → Type 0) (goal : Goal) (d f : ℕ) (now : Counts) (end : End) → Reaches outcome_at goal d f now → EndsFrom outcome_at goal now.d now.f end → EndsFrom outcome_at goal d f end
ends-after outcome_at goal d f now end p q =
    let sum = sum_past goal (record { d = d; f = f }) now p.truths p.past in
    record {
      before = p.truths ++ q.before;
      seen = λ k truth e. elim (get_split p.truths q.before k truth e) [
        | inl h ↦ p.seen k (Some truth) (get_some p.truths k truth h)
        | inr h ↦ let is = h.1 in seen_at_equal outcome_at goal.flip (now.d + now.f + h.0) (d + f + k) (Some truth) (omega arith) (q.seen h.0 truth h.2)
      ];
      goes_on = goes_on-append goal (record { d = d; f = f }) p.truths q.before p.past.goes_on (rw p.past.counted at q.goes_on);
      last = q.last;
      last_seen = seen_at_equal outcome_at goal.flip (now.d + now.f + length q.before) (d + f + length (p.truths ++ q.before)) q.last (let l = length-append p.truths q.before in omega arith) q.last_seen;
      ends = rw (counts_after-append (record { d = d; f = f }) p.truths q.before, ← p.past.counted) q.ends;
    }
