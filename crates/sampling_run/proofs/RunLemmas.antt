-- A run whose traces are taken one by one: what it has admitted, and what its observers have seen.
use Rattle.std.proofs.Common.{◌≡◌, ℕ, ◌+◌, ◌-◌, Bool, List, [], ◌∷◌, ◌++◌, Option, Some, refl, ap, sym, ◌∙◌, subst, arith, length, slice_get, take, map, length-append}
use Rattle.std.proofs.lemmas.List.{length-map, take_all, map-append}
use Rattle.std.proofs.lemmas.List.Sums.{fold-append}
use Rattle.chain_model.specs.declared.job.Job.{Job}
use Rattle.chain_model.specs.declared.outcome.Outcome.{Outcome}
use Rattle.chain_model.specs.Outcome.{IsOutcome}
use Rattle.stop_rules.specs.declared.end.End.{End}
use Rattle.stop_rules.specs.declared.goal.Goal.{Goal}
use Rattle.stop_rules.specs.Codes.{IsBlockCode, given_in, truths_in, seen_in}
use Rattle.stop_rules.specs.Decision.{Counts}
use Rattle.stop_rules.specs.Run.{EndsAmong, EndsRun, GoesPast}
use Rattle.stop_rules.specs.Seats.{Seated, seat_after, seat_after_all}
use Rattle.stop_rules.specs.Seen.{AreSeen, SeenAt}
use Rattle.stop_rules.proofs.ListLemmas.{get_in_prefix, get_mapped}
use Rattle.stop_rules.proofs.SeenLemmas.{get_unmapped, are_seen-append}
use Rattle.stop_rules.proofs.CodeLemmas.{length-truths}
use Rattle.stop_rules.proofs.RunLemmas.{past_nothing, past-append, ends_behind, ends_over}
use Rattle.stop_rules.proofs.ReachLemmas.{sum-counts_after}
use Rattle.stop_rules.proofs.BlockLemmas.{block_seen}

-- these say whether each of the first traces of a job succeeds, in numeric order, and the seats of observers have seen them
pub record HaveSeen (job : Job) (goal : Goal) (watched seats : List Seated) (truths : List Bool) : Type 0 where
  pub seen : AreSeen (IsOutcome job) goal.flip 0 (map (λ truth. Some truth) truths)
  pub shown : seats ≡ map (seat_after_all truths) watched

-- a run has admitted the traces before this one, and nothing has ended it
pub record HasAdmitted (job : Job) (goal : Goal) (watched seats : List Seated) (counts : Counts) (trace : ℕ) : Type 0 where
  pub truths : List Bool
  pub seen : HaveSeen job goal watched seats truths
  pub past : GoesPast goal (record { d = 0; f = 0 }) truths counts
  pub many : length truths ≡ trace

-- seats that have seen no trace are as they were
seats_of_none : (watched : List Seated) → map (seat_after_all []) watched ≡ watched
seats_of_none [] = refl
seats_of_none (seat ∷ watched) = ap (λ rest. seat ∷ rest) (seats_of_none watched)

-- seats that have seen some traces, and then more
seats-append : (first more : List Bool) (watched : List Seated) → map (seat_after_all more) (map (seat_after_all first) watched) ≡ map (seat_after_all (first ++ more)) watched
seats-append first more [] = refl
seats-append first more (seat ∷ watched) =
    ap (λ v. v ∷ map (seat_after_all more) (map (seat_after_all first) watched)) (sym (fold-append seat_after seat first more))
    ∙ ap (λ rest. seat_after_all (first ++ more) seat ∷ rest) (seats-append first more watched)

-- the first truth values of a block are seen, as the block is
taken_seen : (outcome_at : ℕ → Outcome → Type 0) (flip : Bool) (first n : ℕ) (truths : List Bool) (rest : List (Option Bool)) → AreSeen outcome_at flip first (map (λ t. Some t) truths ++ rest)
    → AreSeen outcome_at flip first (map (λ t. Some t) (take n truths))
taken_seen outcome_at flip first n truths rest seen k one there =
    let some = get_unmapped (λ t. Some t) (take n truths) k one there in
    let whole = get_mapped (λ t. Some t) truths rest k some.0 (get_in_prefix n truths k some.0 some.1) in
    subst (λ (v : Option Bool). SeenAt outcome_at flip (first + k) v) some.2 (seen k (Some some.0) whole)

-- nothing is admitted before the first trace
pub admitted_none : (job : Job) (goal : Goal) (watched seats : List Seated) (counts : Counts) → counts ≡ record { d = 0; f = 0 } → seats ≡ watched → HasAdmitted job goal watched seats counts 0
admitted_none job goal watched seats counts nothing same = record {
  truths = [];
  seen = record { seen = λ k one there. absurd cc; shown = same ∙ sym (seats_of_none watched) };
  past = rw nothing (past_nothing goal (record { d = 0; f = 0 }));
  many = refl;
}

-- observers that have seen some traces, and then the first ones of the block of the next trace
pub seen_more : (job : Job) (goal : Goal) (watched now seats : List Seated) (truths : List Bool) (trace code n : ℕ) → HaveSeen job goal watched now truths → length truths ≡ trace
    → IsBlockCode (IsOutcome job) trace 1 code → seats ≡ map (seat_after_all (take n (truths_in goal.flip code))) now → HaveSeen job goal watched seats (truths ++ take n (truths_in goal.flip code))
seen_more job goal watched now seats truths trace code n seen many block fed =
    let more = take n (truths_in goal.flip code) in
    let next : AreSeen (IsOutcome job) goal.flip trace (map (λ t. Some t) more) =
    taken_seen (IsOutcome job) goal.flip trace n (truths_in goal.flip code) _ (block_seen (IsOutcome job) goal.flip trace 1 code (omega arith) block) in
    let here : trace ≡ 0 + length (map (λ t. Some t) truths) = let l = length-map truths (λ t. Some t) in omega arith in
    let behind : AreSeen (IsOutcome job) goal.flip (0 + length (map (λ t. Some t) truths)) (map (λ t. Some t) more) = subst (λ (v : ℕ). AreSeen (IsOutcome job) goal.flip v (map (λ t. Some t) more)) here next in
    record {
      seen = rw (map-append (λ t. Some t) truths more) (are_seen-append (IsOutcome job) goal.flip 0 (map (λ t. Some t) truths) (map (λ t. Some t) more) seen.seen behind);
      shown = fed ∙ (ap (map (seat_after_all more)) seen.shown ∙ seats-append truths more watched);
    }

-- each trace that a run goes past is counted
sum_past : (goal : Goal) (counts now : Counts) (truths : List Bool) → GoesPast goal counts truths now → now.d + now.f ≡ counts.d + counts.f + length truths
sum_past goal counts now truths past = rw past.counted (sum-counts_after truths counts)

-- a trace that ends nothing is counted
pub one_more_counted : (goal : Goal) (counts new : Counts) (code : ℕ) → given_in code ≡ 1 → GoesPast goal counts (truths_in goal.flip code) new → new.d + new.f ≡ counts.d + counts.f + 1
one_more_counted goal counts new code whole past =
    let sum = sum_past goal counts new (truths_in goal.flip code) past in
    let long = length-truths goal.flip (given_in code) code in
    omega (arith, sum, long, whole)

-- a run that has admitted the traces before this one, and this one too
pub admitted_one_more : (job : Job) (goal : Goal) (watched now seats : List Seated) (counts new : Counts) (trace code : ℕ) → HasAdmitted job goal watched now counts trace → IsBlockCode (IsOutcome job) trace 1 code
    → given_in code ≡ 1 → GoesPast goal counts (truths_in goal.flip code) new
    → seats ≡ map (seat_after_all (take ((new.d + new.f) - (counts.d + counts.f)) (truths_in goal.flip code))) now → HasAdmitted job goal watched seats new (trace + 1)
admitted_one_more job goal watched now seats counts new trace code before block whole past fed =
    let n : ℕ = (new.d + new.f) - (counts.d + counts.f) in
    let sum = one_more_counted goal counts new code whole past in
    let long : length (truths_in goal.flip code) ≡ 1 = length-truths goal.flip (given_in code) code ∙ whole in
    let all : take n (truths_in goal.flip code) ≡ truths_in goal.flip code = take_all n (truths_in goal.flip code) (omega (arith, long, sum)) in
    record {
      truths = before.truths ++ truths_in goal.flip code;
      seen = subst (λ (v : List Bool). HaveSeen job goal watched seats (before.truths ++ v)) all (seen_more job goal watched now seats before.truths trace code n before.seen before.many block fed);
      past = past-append goal (record { d = 0; f = 0 }) counts new before.truths (truths_in goal.flip code) before.past past;
      many = let l = length-append before.truths (truths_in goal.flip code) in let m = before.many in omega (arith, l, m, long);
    }

-- a run that has admitted the traces before this one, and ends with it
pub ends_with_next : (job : Job) (goal : Goal) (watched now : List Seated) (counts : Counts) (trace code : ℕ) (end : End) → HasAdmitted job goal watched now counts trace → IsBlockCode (IsOutcome job) trace 1 code
    → EndsAmong goal counts (seen_in goal.flip code 1) end → EndsRun job goal end
ends_with_next job goal watched now counts trace code end before block ends =
    let seen = seen_in goal.flip code 1 in
    let front = map (λ t. Some t) before.truths in
    let here : trace ≡ 0 + length front = let l = length-map before.truths (λ t. Some t) in let m = before.many in omega arith in
    let next : AreSeen (IsOutcome job) goal.flip (0 + length front) seen = subst (λ (v : ℕ). AreSeen (IsOutcome job) goal.flip v seen) here (block_seen (IsOutcome job) goal.flip trace 1 code (omega arith) block) in
    let all : AreSeen (IsOutcome job) goal.flip 0 (front ++ seen) = are_seen-append (IsOutcome job) goal.flip 0 front seen before.seen.seen next in
    ends_over (λ k one. slice_get (front ++ seen) k ≡ Some one) (λ k one. SeenAt (IsOutcome job) goal.flip (0 + 0 + k) one) goal (record { d = 0; f = 0 }) end all
    (ends_behind goal (record { d = 0; f = 0 }) counts before.truths seen end before.past ends)
