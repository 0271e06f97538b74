-- How a run goes on, and how it ends.
use Rattle.std.proofs.Common.{◌≡◌, ℕ, zero, suc, ◌+◌, ◌<◌, ◌≤◌, inl, inr, Bool, true, false, not, List, [], ◌∷◌, ◌++◌, Option, Some, None, refl, ap, sym, ◌∙◌, arith, length, slice_get, take, map, option_map, count_by, length-append, nat_lt, rules}
use Rattle.std.proofs.lemmas.List.{take_all, take-append-le, append-nil}
use Rattle.std.proofs.lemmas.List.Sums.{sum_by-append}
use Rattle.std.proofs.Math.Seq.{take-append-add}
use Rattle.stop_rules.specs.declared.end.Cause.{Cause}
use Rattle.stop_rules.specs.declared.end.Cause.TheVariants as cause
use Rattle.stop_rules.specs.declared.end.End.{End}
use Rattle.stop_rules.specs.declared.goal.Goal.{Goal}
use Rattle.stop_rules.specs.Decision.{Counts, counted, counts_after, cause_at, end_at, end_with}
use Rattle.stop_rules.specs.Run.{GoesOn, EndsOn, EndsAmong, GoesPast}
use Rattle.stop_rules.specs.Codes.{given_in, truths_in, seen_in}
use Rattle.stop_rules.proofs.CodeLemmas.{length-truths}
use Rattle.stop_rules.proofs.ListLemmas.{get_in_prefix, get_mapped, get_next, get_behind, get_joined, length-take_before, at_most_or_more}

-- as many pass a test in two lists as in one and in the other
count_by-append : (p : Bool → Bool) (first more : List Bool) → count_by p (first ++ more) ≡ count_by p first + count_by p more
count_by-append p first more = sum_by-append _ first more

-- counts are equal where both numbers are
equal_counts : (a b : Counts) → a.d ≡ b.d → a.f ≡ b.f → a ≡ b
equal_counts a b d f = λ i. record { d = d i; f = f i }

-- the counts after no trace
pub counts_after-nil : (counts : Counts) → counts_after counts [] ≡ counts
unfolding counts_after
counts_after-nil counts = equal_counts _ _ (omega arith) (omega arith)

-- the counts after more traces
pub counts_after-append : (counts : Counts) (first more : List Bool) → counts_after counts (first ++ more) ≡ counts_after (counts_after counts first) more
unfolding counts_after
counts_after-append counts first more =
    equal_counts _ _ (let e = count_by-append (λ truth. truth) first more in omega arith) (let e = count_by-append not first more in omega arith)

-- the counts after one trace
pub counts_after-one : (counts : Counts) (truth : Bool) → counts_after counts (truth ∷ []) ≡ counted truth counts
unfolding counts_after
counts_after-one counts true = equal_counts _ _ refl (omega arith)
counts_after-one counts false = equal_counts _ _ (omega arith) refl

-- the counts after one trace more
pub counts_after-push : (counts : Counts) (truths : List Bool) (truth : Bool) → counts_after counts (truths ++ truth ∷ []) ≡ counted truth (counts_after counts truths)
counts_after-push counts truths truth = counts_after-append counts truths (truth ∷ []) ∙ counts_after-one (counts_after counts truths) truth

-- one more trace is counted once
pub counted_once : (truth : Bool) (counts new : Counts) → new ≡ counted truth counts → new.d + new.f ≡ counts.d + counts.f + 1
counted_once true counts new is = rw is (omega arith)
counted_once false counts new is = rw is (omega arith)

-- a run that goes on after some traces, and then after more
pub goes_on-append : (goal : Goal) (counts : Counts) (first more : List Bool) → GoesOn goal counts first → GoesOn goal (counts_after counts first) more → GoesOn goal counts (first ++ more)
goes_on-append goal counts first more p q m some few =
    elim (at_most_or_more m (length first)) [
      | inl h ↦ rw (take-append-le m first more h) (p m some h)
      | inr h ↦
          let short : h.0 ≤ length more = let l = length-append first more in let e = h.2 in omega arith in
          let split : take m (first ++ more) ≡ first ++ take h.0 more = rw h.2 (take-append-add first more h.0) in
          rw (split, counts_after-append counts first (take h.0 more)) (q h.0 h.1 short)
    ]

-- a run that goes on after one trace
goes_on_once : (goal : Goal) (counts : Counts) (truth : Bool) → cause_at goal (counted truth counts) ≡ None → GoesOn goal counts (truth ∷ [])
goes_on_once goal counts truth none zero some few = absurd (omega arith)
goes_on_once goal counts truth none (suc zero) some few = rw (counts_after-one counts truth) none
goes_on_once goal counts truth none (suc (suc m)) some few = absurd (omega arith)

-- where no end comes there is no cause
no_cause : (counts : Counts) (found : Option Cause) → None ≡ option_map (end_at counts) found → found ≡ None
no_cause counts None e = refl
no_cause counts (Some cause) e = cc

-- the counts of an end are those that it is made with
counts_of_end : (counts : Counts) (found : Option Cause) (end : End) → Some end ≡ option_map (end_at counts) found → counts ≡ record { d = end.d; f = end.f }
counts_of_end counts None end e = cc
counts_of_end counts (Some cause) end e = let same : end ≡ end_at counts cause = cc in rw same refl

-- a run goes past no trace
pub past_nothing : (goal : Goal) (counts : Counts) → GoesPast goal counts [] counts
past_nothing goal counts = record { goes_on = λ m some few. absurd (omega arith); counted = sym (counts_after-nil counts) }

-- a run goes past one trace more
pub past_one_more : (goal : Goal) (counts now new : Counts) (truths : List Bool) (truth : Bool) → GoesPast goal counts truths now
    → None ≡ end_with goal now (Some truth) → new ≡ counted truth now → GoesPast goal counts (truths ++ truth ∷ []) new
past_one_more goal counts now new truths truth past none is =
    let open_here : cause_at goal (counted truth now) ≡ None = no_cause (counted truth now) (cause_at goal (counted truth now)) none in
    record {
      goes_on = goes_on-append goal counts truths (truth ∷ []) past.goes_on (goes_on_once goal (counts_after counts truths) truth (rw past.counted at open_here));
      counted = is ∙ (ap (counted truth) past.counted ∙ sym (counts_after-push counts truths truth));
    }

-- a run ends with this trace
pub ends_here : (goal : Goal) (counts now : Counts) (truths : List Bool) (k : ℕ) (truth : Bool) (rest : List (Option Bool)) (end : End)
    → GoesPast goal counts (take k truths) now → slice_get truths k ≡ Some truth → Some end ≡ end_with goal now (Some truth)
    → EndsAmong goal counts (map (λ t. Some t) truths ++ rest) end
ends_here goal counts now truths k truth rest end past is ends = record {
  before = take k truths;
  seen = λ j t e. get_mapped (λ t. Some t) truths rest j t (get_in_prefix k truths j t e);
  goes_on = past.goes_on;
  last = Some truth;
  last_seen = rw (length-take_before k truths truth is) (get_mapped (λ t. Some t) truths rest k truth is);
  ends = rw (← past.counted) (sym ends);
}

-- a run ends with a fault after these traces
pub ends_with_fault : (goal : Goal) (counts now : Counts) (truths : List Bool) (rest : List (Option Bool)) → GoesPast goal counts truths now
    → EndsAmong goal counts (map (λ t. Some t) truths ++ None ∷ rest) (end_at now cause.Fault)
ends_with_fault goal counts now truths rest past = record {
  before = truths;
  seen = λ j t e. get_mapped (λ t. Some t) truths (None ∷ rest) j t e;
  goes_on = past.goes_on;
  last = None;
  last_seen = get_next (λ t. Some t) truths None rest;
  ends = ap (λ (v : Counts). Some (end_at v cause.Fault)) (sym past.counted);
}

-- the counts with the last trace are those of the end
pub end_counts : (goal : Goal) (now new : Counts) (truth : Bool) (end : End) → Some end ≡ end_with goal now (Some truth) → new ≡ counted truth now → new ≡ record { d = end.d; f = end.f }
end_counts goal now new truth end e is = counts_of_end new (cause_at goal (counted truth now)) end (rw is e)

-- a run that has gone past as many traces of a block as the code gives has gone past them all
pub past_all : (goal : Goal) (counts now : Counts) (flip : Bool) (code position : ℕ) → given_in code ≤ position → GoesPast goal counts (take position (truths_in flip code)) now → GoesPast goal counts (truths_in flip code) now
past_all goal counts now flip code position h past =
    let long = length-truths flip (given_in code) code in
    rw (take_all position (truths_in flip code) (omega (arith, long, h))) at past

-- a block with fewer truth values than traces ends the run with a fault
pub ends_at_fault : (goal : Goal) (counts now : Counts) (flip : Bool) (code count : ℕ) → given_in code < count → GoesPast goal counts (truths_in flip code) now → EndsAmong goal counts (seen_in flip code count) (end_at now cause.Fault)
ends_at_fault goal counts now flip code count h past =
    let test : nat_lt (given_in code) count ≡ true = search rules in
    rw test (ends_with_fault goal counts now (truths_in flip code) [] past)

-- a block in which no trace faults has nothing behind its truth values
pub seen_of_whole : (flip : Bool) (code count : ℕ) → count ≤ given_in code → seen_in flip code count ≡ map (λ t. Some t) (truths_in flip code)
seen_of_whole flip code count h =
    let test : nat_lt (given_in code) count ≡ false = search rules in
    rw test (append-nil (map (λ t. Some t) (truths_in flip code)))

-- a run that goes past some traces, and then past more
pub past-append : (goal : Goal) (counts now after : Counts) (first more : List Bool) → GoesPast goal counts first now → GoesPast goal now more after → GoesPast goal counts (first ++ more) after
past-append goal counts now after first more p q = record {
  goes_on = goes_on-append goal counts first more p.goes_on (rw p.counted at q.goes_on);
  counted = q.counted ∙ (ap (λ (v : Counts). counts_after v more) p.counted ∙ sym (counts_after-append counts first more));
}

-- a run that goes past some traces, and then ends
pub ends_behind : (goal : Goal) (counts now : Counts) (first : List Bool) (seen : List (Option Bool)) (end : End) → GoesPast goal counts first now → EndsAmong goal now seen end
    → EndsAmong goal counts (map (λ t. Some t) first ++ seen) end
ends_behind goal counts now first seen end p q = record {
  before = first ++ q.before;
  seen = get_joined (λ t. Some t) first q.before seen q.seen;
  goes_on = goes_on-append goal counts first q.before p.goes_on (rw p.counted at q.goes_on);
  last = q.last;
  last_seen = rw (length-append first q.before) (get_behind (λ t. Some t) first seen (length q.before) q.last q.last_seen);
  ends = rw (counts_after-append counts first q.before, ← p.counted) q.ends;
}

-- the end of a run depends on what is seen alone
pub ends_over : (p q : ℕ → Option Bool → Type 0) (goal : Goal) (counts : Counts) (end : End) → ((k : ℕ) (one : Option Bool) → p k one → q k one) → EndsOn p goal counts end → EndsOn q goal counts end
ends_over p q goal counts end each e = record {
  before = e.before;
  seen = λ k truth is. each k (Some truth) (e.seen k truth is);
  goes_on = e.goes_on;
  last = e.last;
  last_seen = each (length e.before) e.last e.last_seen;
  ends = e.ends;
}
