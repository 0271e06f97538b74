-- The end of a run whose traces are taken one by one.
use Rattle.std.proofs.Common.{◌≡◌, ◌==◌, ◌↔◌, ℕ, zero, suc, ◌+◌, ◌-◌, ◌≤◌, Bool, true, false, List, [], ◌∷◌, ◌++◌, Option, Some, None, refl, ap, sym, ◌∙◌, subst, arith, rules, length, slice_get, take, map, nat_lt, if◌then◌else◌, length-append, option_map}
use Rattle.std.proofs.lemmas.List.{length-map, take_all, length-take}
use Rattle.std.proofs.lemmas.Option.{slice_get_within, none-some}
use Rattle.chain_model.specs.declared.job.Job.{Job}
use Rattle.chain_model.specs.declared.outcome.TraceFault.{TraceFault}
use Rattle.chain_model.specs.declared.outcome.Outcome.{Outcome}
use Rattle.chain_model.specs.declared.outcome.Outcome.TheVariants as outcome
use Rattle.chain_model.specs.Outcome.{IsOutcome}
use Rattle.chain_model.proofs.OutcomeLemmas.{one_outcome_at_most}
use Rattle.sampling_plan.specs.declared.class.Class.{Class}
use Rattle.sampling_plan.specs.declared.class.Class.TheVariants as class
use Rattle.stop_rules.specs.declared.end.Cause.{Cause}
use Rattle.stop_rules.specs.declared.end.Cause.TheVariants as cause
use Rattle.stop_rules.specs.declared.end.End.{End}
use Rattle.stop_rules.specs.declared.goal.Goal.{Goal}
use Rattle.stop_rules.specs.Codes.{IsBlockCode, given_in, truths_in, seen_in}
use Rattle.stop_rules.specs.Decision.{Counts, class_of, cause_of, cause_at, or_limit, counted, counts_after, end_at, end_with}
use Rattle.stop_rules.specs.Observers.{Observation}
use Rattle.stop_rules.specs.Run.{EndsAmong}
use Rattle.stop_rules.specs.Seats.{Seated, watching, seat_after_all, line_at}
use Rattle.stop_rules.specs.Seen.{SeenAt, seen_of}
use Rattle.stop_rules.proofs.CodeLemmas.{length-truths}
use Rattle.stop_rules.proofs.RunLemmas.{counts_after-nil, counted_once}
use Rattle.stop_rules.proofs.BlockLemmas.{block_seen, block_is_code}
use Rattle.sampling_run.specs.Drawn.{AreLines, IsFaultOf}
use Rattle.sampling_run.proofs.RunLemmas.{HaveSeen, HasAdmitted, seen_more}

-- the one trace of a block ends a run
record EndsWithOne (goal : Goal) (counts : Counts) (seen : List (Option Bool)) (end : End) : Type 0 where
  pub last : Option Bool
  pub is : slice_get seen 0 ≡ Some last
  pub ends : end_with goal counts last ≡ Some end

-- a list of no length is empty
empty : (truths : List Bool) → length truths ≤ 0 → truths ≡ []
empty [] h = refl
empty (truth ∷ truths) h = absurd (omega arith)

-- a run that ends among one trace ends with it
ends_with_one : (goal : Goal) (counts : Counts) (seen : List (Option Bool)) (end : End) → length seen ≤ 1 → EndsAmong goal counts seen end → EndsWithOne goal counts seen end
ends_with_one goal counts seen end short ends =
    let within = slice_get_within seen (length ends.before) ends.last ends.last_seen in
    let none : ends.before ≡ [] = empty ends.before (omega (arith, within, short)) in
    let first : length ends.before ≡ 0 = ap length none in
    record {
      last = ends.last;
      is = rw first at ends.last_seen;
      ends = ap (λ (v : Counts). end_with goal v ends.last) (sym (counts_after-nil counts)) ∙ (ap (λ (v : List Bool). end_with goal (counts_after counts v) ends.last) (sym none) ∙ ends.ends);
    }

-- what comes after so many truth values of one trace
length-one_rest : (given : ℕ) (rest : List (Option Bool)) → rest ≡ (if nat_lt given 1 then None ∷ [] else []) → given ≤ 1 → given + length rest ≤ 1
length-one_rest zero rest is h = let long : length rest ≡ 1 = ap length is in omega arith
length-one_rest (suc zero) rest is h = let long : length rest ≡ 0 = ap length is in omega arith
length-one_rest (suc (suc given)) rest is h = absurd (omega arith)

-- of one trace one thing is seen
length-seen_in : (flip : Bool) (code : ℕ) → given_in code ≤ 1 → length (seen_in flip code 1) ≤ 1
length-seen_in flip code few =
    let rest : List (Option Bool) = if nat_lt (given_in code) 1 then None ∷ [] else [] in
    let all = length-append (map (λ t. Some t) (truths_in flip code)) rest in
    let long = length-map (truths_in flip code) (λ t. Some t) in
    let given = length-truths flip (given_in code) code in
    let one = length-one_rest (given_in code) rest refl few in
    omega (arith, all, long, given, one)

-- counts that decide are no fault
no_fault : (class : Class) (reached : Bool) → or_limit (cause_of class) reached ≡ Some cause.Fault → ⊥
no_fault class.Accept reached e = cc
no_fault class.Reject reached e = cc
no_fault class.Close reached e = cc
no_fault class.Go true e = cc
no_fault class.Go false e = cc

-- an end that is made of counts and a cause has them
made_of : (counts : Counts) (found : Option Cause) (end : End) → option_map (end_at counts) found ≡ Some end → (found ≡ Some end.cause) × (end.d + end.f ≡ counts.d + counts.f)
made_of counts None end e = absurd cc
made_of counts (Some cause) end e =
    let same : end_at counts cause ≡ end = cc in
    (ap (λ (v : End). Some v.cause) same, ap (λ (v : End). v.d + v.f) (sym same))

-- an end by a fault comes of a trace without a truth value
last_of_fault : (goal : Goal) (counts : Counts) (last : Option Bool) (end : End) → end_with goal counts last ≡ Some end → end.cause ≡ cause.Fault → last ≡ None
last_of_fault goal counts None end ends is = refl
last_of_fault goal counts (Some truth) end ends is =
    let made = made_of (counted truth counts) (cause_at goal (counted truth counts)) end ends in
    absurd (no_fault (class_of goal.rule (counted truth counts).d (counted truth counts).f) (((counted truth counts).d + (counted truth counts).f) == goal.limit) (made.0 ∙ ap (λ (v : Cause). Some v) is))

-- an outcome without a truth value is a fault, which is told
fault_is_told : (flip : Bool) (own : Outcome) → seen_of flip own ≡ None → ((step : ℕ) (fault : TraceFault) → (◌≡◌ {A = Option (ℕ × TraceFault)} None (Some (step, fault))) ↔ (own ≡ outcome.Fault step fault)) → ⊥
fault_is_told flip outcome.True e told = none-some _ (sym e)
fault_is_told flip outcome.False e told = none-some _ (sym e)
fault_is_told flip (outcome.Fault step fault) e told = none-some _ ((told step fault).1 refl)

-- a trace that faults ends a run by its fault
fault_ends : (goal : Goal) (counts : Counts) (end : End) → end_with goal counts None ≡ Some end → (end.cause ≡ cause.Fault) × (end.d + end.f ≡ counts.d + counts.f)
fault_ends goal counts end ends =
    let made = made_of counts (Some cause.Fault) end ends in
    let same : end.cause ≡ cause.Fault = cc in
    (same, made.1)

-- the one trace of a block is its first thing seen, and has this outcome
last_of : (job : Job) (goal : Goal) (counts : Counts) (trace code : ℕ) (own : Outcome) (end : End) → IsOutcome job trace own → IsBlockCode (IsOutcome job) trace 1 code
    → (one : EndsWithOne goal counts (seen_in goal.flip code 1) end) → one.last ≡ seen_of goal.flip own
last_of job goal counts trace code own end is block one =
    let seen : SeenAt (IsOutcome job) goal.flip (trace + 0) one.last = block_seen (IsOutcome job) goal.flip trace 1 code (omega arith) block 0 one.last one.is in
    let number : trace + 0 ≡ trace = omega arith in
    let same : seen.0 ≡ own = one_outcome_at_most job trace seen.0 own (subst (λ (v : ℕ). IsOutcome job v seen.0) number seen.1) is in
    sym seen.2 ∙ ap (seen_of goal.flip) same

-- a run that ends among the one trace of a block ends with it
ends_with_block : (job : Job) (goal : Goal) (counts : Counts) (trace code : ℕ) (end : End) → IsBlockCode (IsOutcome job) trace 1 code → EndsAmong goal counts (seen_in goal.flip code 1) end
    → EndsWithOne goal counts (seen_in goal.flip code 1) end
ends_with_block job goal counts trace code end block ends =
    let is_code = block_is_code (IsOutcome job) trace 1 code (omega arith) (omega arith) block in
    ends_with_one goal counts (seen_in goal.flip code 1) end (length-seen_in goal.flip code is_code.given) ends

-- the fault that ends a run is that of the trace with which it ends
pub fault_of_end : (job : Job) (goal : Goal) (counts : Counts) (trace code : ℕ) (own : Outcome) (end : End) (found : Option (ℕ × TraceFault)) → IsOutcome job trace own → counts.d + counts.f ≡ trace
    → IsBlockCode (IsOutcome job) trace 1 code → EndsAmong goal counts (seen_in goal.flip code 1) end
    → ((step : ℕ) (fault : TraceFault) → (found ≡ Some (step, fault)) ↔ (own ≡ outcome.Fault step fault)) → IsFaultOf job end found
fault_of_end job goal counts trace code own end (Some (step, fault)) is many block ends told =
    let one = ends_with_block job goal counts trace code end block ends in
    let faults : own ≡ outcome.Fault step fault = (told step fault).0 refl in
    let none : one.last ≡ None = last_of job goal counts trace code own end is block one ∙ ap (seen_of goal.flip) faults in
    let by_fault = fault_ends goal counts end (rw none at one.ends) in
    let number : trace ≡ end.d + end.f = sym (by_fault.1 ∙ many) in
    (by_fault.0, subst (λ (v : ℕ). IsOutcome job v (outcome.Fault step fault)) number (subst (λ (v : Outcome). IsOutcome job trace v) faults is))
fault_of_end job goal counts trace code own end None is many block ends told = λ by_fault.
    let one = ends_with_block job goal counts trace code end block ends in
    let none : one.last ≡ None = last_of_fault goal counts one.last end one.ends by_fault in
    fault_is_told goal.flip own (sym (last_of job goal counts trace code own end is block one) ∙ none) told

-- where the first thing seen of a block is a truth value, the block has one
some_truth : (truths : List Bool) (faults : Bool) (truth : Bool) → slice_get (map (λ t. Some t) truths ++ (if faults then None ∷ [] else [])) 0 ≡ Some (Some truth) → 1 ≤ length truths
some_truth [] true truth e = absurd cc
some_truth [] false truth e = absurd cc
some_truth (first ∷ truths) faults truth e = omega arith

-- the traces that an end counts are those before its block, and first ones of the block
counted_by_end : (goal : Goal) (counts : Counts) (truths : List Bool) (faults : Bool) (last : Option Bool) (end : End)
    → slice_get (map (λ t. Some t) truths ++ (if faults then None ∷ [] else [])) 0 ≡ Some last → end_with goal counts last ≡ Some end
    → (counts.d + counts.f ≤ end.d + end.f) × ((end.d + end.f) - (counts.d + counts.f) ≤ length truths)
counted_by_end goal counts truths faults None end is ends =
    let made = made_of counts (Some cause.Fault) end ends in
    let sum = made.1 in
    (omega (arith, sum), omega (arith, sum))
counted_by_end goal counts truths faults (Some truth) end is ends =
    let made = made_of (counted truth counts) (cause_at goal (counted truth counts)) end ends in
    let sum = made.1 in
    let once = counted_once truth counts (counted truth counts) refl in
    let some = some_truth truths faults truth is in
    (omega (arith, sum, once), omega (arith, sum, once, some))

-- a run that ends with a trace counts no trace after it
pub few_at_end : (job : Job) (goal : Goal) (counts : Counts) (trace code : ℕ) (end : End) → counts.d + counts.f ≡ trace → IsBlockCode (IsOutcome job) trace 1 code
    → EndsAmong goal counts (seen_in goal.flip code 1) end → end.d + end.f ≤ trace + 1
few_at_end job goal counts trace code end many block ends =
    let one = ends_with_block job goal counts trace code end block ends in
    let within = counted_by_end goal counts (truths_in goal.flip code) (nat_lt (given_in code) 1) one.last end one.is one.ends in
    let low = within.0 in
    let high = within.1 in
    let long = length-truths goal.flip (given_in code) code in
    let given = (block_is_code (IsOutcome job) trace 1 code (omega arith) (omega arith) block).given in
    omega (arith, low, high, long, given, many)

-- the seats of observers have seen the traces that a run admitted, and no more
pub record HaveSeenAll (job : Job) (goal : Goal) (watched seats : List Seated) (end : End) : Type 0 where
  pub truths : List Bool
  pub seen : HaveSeen job goal watched seats truths
  pub all : length truths ≡ end.d + end.f

-- observers that have seen the traces before the last one, and what is admitted of that one, have seen all of a run
pub seen_all : (job : Job) (goal : Goal) (watched now seats : List Seated) (counts new : Counts) (trace code : ℕ) (end : End) → HasAdmitted job goal watched now counts trace → counts.d + counts.f ≡ trace
    → IsBlockCode (IsOutcome job) trace 1 code → EndsAmong goal counts (seen_in goal.flip code 1) end → new ≡ record { d = end.d; f = end.f }
    → seats ≡ map (seat_after_all (take ((new.d + new.f) - (counts.d + counts.f)) (truths_in goal.flip code))) now → HaveSeenAll job goal watched seats end
seen_all job goal watched now seats counts new trace code end before many block ends ended fed =
    let one = ends_with_block job goal counts trace code end block ends in
    let n : ℕ = (new.d + new.f) - (counts.d + counts.f) in
    let more = take n (truths_in goal.flip code) in
    let within = counted_by_end goal counts (truths_in goal.flip code) (nat_lt (given_in code) 1) one.last end one.is one.ends in
    let sum : new.d + new.f ≡ end.d + end.f = ap (λ (v : Counts). v.d + v.f) ended in
    record {
      truths = before.truths ++ more;
      seen = seen_more job goal watched now seats before.truths trace code n before.seen before.many block fed;
      all =
          let l = length-append before.truths more in
          let m = before.many in
          let t = length-take n (truths_in goal.flip code) in
          let low = within.0 in
          let high = within.1 in omega (arith, l, m, t, low, high, sum, many);
    }

-- the lines of seats, by what the observers there had seen before some traces
lines_after : {B : Type 0} (look : B → Observation) (truths : List Bool) (watch : List B)
    → map line_at (map (seat_after_all truths) (map (λ b. watching (look b)) watch)) ≡ map (λ before. line_at (seat_after_all truths (watching before))) (map look watch)
lines_after look truths [] = refl
lines_after look truths (b ∷ watch) = ap (λ rest. line_at (seat_after_all truths (watching (look b))) ∷ rest) (lines_after look truths watch)

-- what observers say who have seen all of a run
pub lines_of_all : (job : Job) (goal : Goal) {B : Type 0} (look : B → Observation) (watch : List B) (seats : List Seated) (end : End) (told : List (List ℕ))
    → HaveSeenAll job goal (map (λ b. watching (look b)) watch) seats end → told ≡ map line_at seats → AreLines job goal (map look watch) end told
lines_of_all job goal look watch seats end told all lines = record {
  truths = all.truths;
  seen = all.seen.seen;
  all = all.all;
  lines = lines ∙ (ap (map line_at) all.seen.shown ∙ lines_after look all.truths watch);
}

-- where the limit is reached there is a cause
limit_ends : (found : Option Cause) (reached : Bool) → reached ≡ true → or_limit found reached ≡ None → ⊥
limit_ends (Some cause) reached test e = cc
limit_ends None true test e = cc
limit_ends None false test e = cc

-- no run goes past as many traces as the limit allows
pub not_past_limit : (job : Job) (goal : Goal) (watched seats : List Seated) (counts : Counts) (trace : ℕ) → HasAdmitted job goal watched seats counts trace → counts.d + counts.f ≡ trace → trace ≡ goal.limit
    → 1 ≤ goal.limit → ⊥
not_past_limit job goal watched seats counts trace before many at some =
    let all : take (length before.truths) before.truths ≡ before.truths = take_all (length before.truths) before.truths (omega arith) in
    let long = before.many in
    let open_there = before.past.goes_on (length before.truths) (omega (arith, long, at, some)) (omega arith) in
    let open_here : cause_at goal counts ≡ None = ap (cause_at goal) (before.past.counted ∙ ap (counts_after (record { d = 0; f = 0 })) (sym all)) ∙ open_there in
    let sum : counts.d + counts.f ≡ goal.limit = many ∙ at in
    let reached : ((counts.d + counts.f) == goal.limit) ≡ true = search (rules, sum) in
    limit_ends (cause_of (class_of goal.rule counts.d counts.f)) ((counts.d + counts.f) == goal.limit) reached open_here
