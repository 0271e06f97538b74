-- What a monitor has seen, and what it says of the next pair.
use Rattle.std.proofs.Common.{◌≡◌, ℕ, ◌+◌, Bool, List, [], ◌∷◌, ◌++◌, length, sym, ◌∙◌, ap, subst, arith, length-append, if◌then◌else◌, nat_lt, true}
use Rattle.std.proofs.lemmas.Bool.{lt-ltb}
use Rattle.chain_model.specs.Paths.{horizon_of}
use Rattle.chain_model.specs.Trace.{Pair}
use Rattle.path_monitor.specs.declared.step.Step.{Step}
use Rattle.path_monitor.specs.declared.step.Step.TheVariants.{More}
use Rattle.path_monitor.specs.declared.monitor.Monitor.{Monitor}
use Rattle.path_monitor.specs.Verdicts.{verdict_of, next_number}
use Rattle.path_monitor.specs.Watching.{HasSeen, Judges}
use Rattle.path_monitor.proofs.SettlingLemmas.{IsUndecided, Tells, undecided_step, undecided_is_open, undecided_is_short, open_is_undecided, judged}

-- what the next pair tells
pub tells_next : (m : Monitor) (pairs : List Pair) (p q : Bool) (step : Step) → HasSeen m pairs → step ≡ verdict_of m.kind m.seen p q
    → Tells m.kind (pairs ++ ((p, q) ∷ [])) step
tells_next m pairs p q step seen is =
    subst (Tells m.kind (pairs ++ ((p, q) ∷ []))) (ap (λ n. verdict_of m.kind n p q) seen.count ∙ sym is)
    (undecided_step m.kind pairs p q (open_is_undecided m.kind pairs seen.unsettled))

-- the pairs with the next one are judged so
pub judges_next : (m : Monitor) (pairs : List Pair) (p q : Bool) (step : Step) → HasSeen m pairs → step ≡ verdict_of m.kind m.seen p q
    → Judges m.kind (pairs ++ ((p, q) ∷ [])) step
judges_next m pairs p q step seen is = judged m.kind (pairs ++ ((p, q) ∷ [])) step (tells_next m pairs p q step seen is)

-- and where nothing is settled yet, the monitor goes on from there
pub has_seen_next : (m : Monitor) (pairs : List Pair) (p q : Bool) (step : Step) (number : ℕ) → HasSeen m pairs → step ≡ verdict_of m.kind m.seen p q
    → number ≡ next_number m.kind m.seen → step ≡ More → HasSeen (record { kind = m.kind; seen = number }) (pairs ++ ((p, q) ∷ []))
has_seen_next m pairs p q step number seen is next more =
    let tells : IsUndecided m.kind (pairs ++ ((p, q) ∷ [])) = subst (Tells m.kind (pairs ++ ((p, q) ∷ []))) more (tells_next m pairs p q step seen is) in
    let short = undecided_is_short m.kind (pairs ++ ((p, q) ∷ [])) tells in
    let one_more : length (pairs ++ ((p, q) ∷ [])) ≡ length pairs + 1 = length-append pairs ((p, q) ∷ []) in
    let count = seen.count in
    let before : nat_lt m.seen (horizon_of m.kind) ≡ true = lt-ltb _ _ (omega (arith, short, one_more, count)) in
    record {
      count = one_more ∙ (ap (λ n. n + 1) count ∙ sym (next ∙ ap (λ (b : Bool). if b then m.seen + 1 else m.seen) before));
      unsettled = undecided_is_open m.kind (pairs ++ ((p, q) ∷ [])) tells;
    }
