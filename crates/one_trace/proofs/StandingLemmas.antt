-- A monitor that is shown one pair again and again.
use Rattle.std.proofs.Common.{◌≡◌, ℕ, ◌+◌, ◌<◌, Bool, List, [], ◌∷◌, ◌++◌, length, replicate, refl, sym, ◌∙◌, ap, subst, arith, add-one, length-append}
use Rattle.std.proofs.lemmas.List.{append-nil, append_assoc, replicate_more, length-replicate}
use Rattle.chain_model.specs.declared.job.PathKind.{PathKind}
use Rattle.chain_model.specs.Paths.{horizon_of}
use Rattle.chain_model.specs.Trace.{Pair}
use Rattle.chain_model.specs.Settling.{Settles}
use Rattle.path_monitor.specs.declared.monitor.Monitor.{Monitor}
use Rattle.path_monitor.specs.Watching.{HasSeen, IsOpen}
use Rattle.one_trace.specs.Standing.{SettlesAgain}

-- a monitor that was shown a pair so often has settled nothing yet
pub record HasStood (before now : Monitor) (pair : Pair) (n : ℕ) : Type 0 where
  pub kind : now.kind ≡ before.kind
  pub seen : (pairs : List Pair) → HasSeen before pairs → HasSeen now (pairs ++ replicate n pair)

-- pairs and one more of a row of equal ones
pub one_more : (pairs : List Pair) (pair : Pair) (n : ℕ) → (pairs ++ replicate n pair) ++ (pair ∷ []) ≡ pairs ++ replicate (n + 1) pair
one_more pairs pair n = append_assoc pairs (replicate n pair) (pair ∷ []) ∙ ap (λ (ps : List Pair). pairs ++ ps) (replicate_more n pair)

-- at first it was shown nothing
pub stood_at_first : (monitor : Monitor) (pair : Pair) → HasStood monitor monitor pair 0
stood_at_first monitor pair = record {
  kind = refl;
  seen = λ pairs seen. subst (HasSeen monitor) (sym (append-nil pairs)) seen;
}

-- where once more settles nothing, it goes on
pub stood_once_more : (before now next : Monitor) (pair : Pair) (n : ℕ) → HasStood before now pair n → next.kind ≡ now.kind
    → ((pairs : List Pair) → HasSeen now pairs → HasSeen next (pairs ++ (pair ∷ [])))
    → HasStood before next pair (n + 1)
stood_once_more before now next pair n stood same more =
    record {
      kind = same ∙ stood.kind;
      seen = λ pairs first. subst (HasSeen next) (one_more pairs pair n) (more (pairs ++ replicate n pair) (stood.seen pairs first));
    }

-- where once more settles the formula, that is the first time
pub stood_settled : (before now : Monitor) (pair : Pair) (n : ℕ) (truth : Bool) → HasStood before now pair n
    → ((pairs : List Pair) → HasSeen now pairs → Settles now.kind (pairs ++ (pair ∷ [])) truth)
    → (pairs : List Pair) → HasSeen before pairs → SettlesAgain before.kind pairs pair truth
stood_settled before now pair n truth stood settled pairs first =
    let here : Settles now.kind (pairs ++ replicate (n + 1) pair) truth =
    subst (λ (ps : List Pair). Settles now.kind ps truth) (one_more pairs pair n) (settled (pairs ++ replicate n pair) (stood.seen pairs first)) in
    record {
      more = n;
      settled = subst (λ (k : ℕ). Settles before.kind (pairs ++ replicate k pair) truth) (add-one n)
          (subst (λ (k : PathKind). Settles k (pairs ++ replicate (n + 1) pair) truth) stood.kind here);
      before = λ t settled. (stood.seen pairs first).unsettled t
          (subst (λ (k : PathKind). Settles k (pairs ++ replicate n pair) t) (sym stood.kind) settled);
    }

-- it does not go on for longer than the horizon
pub stood_short : (before now : Monitor) (pair : Pair) (n : ℕ)
    → ((kind : PathKind) (pairs : List Pair) → IsOpen kind pairs → length pairs < horizon_of kind + 1)
    → HasStood before now pair n → (pairs : List Pair) → HasSeen before pairs → n < horizon_of before.kind + 1
stood_short before now pair n short stood pairs first =
    let seen = stood.seen pairs first in
    let few : length (pairs ++ replicate n pair) < horizon_of now.kind + 1 = short now.kind (pairs ++ replicate n pair) seen.unsettled in
    let many : length (pairs ++ replicate n pair) ≡ length pairs + length (replicate n pair) = length-append pairs (replicate n pair) in
    let count : length (replicate n pair) ≡ n = length-replicate n pair in
    let same : horizon_of now.kind ≡ horizon_of before.kind = ap horizon_of stood.kind in
    omega arith
